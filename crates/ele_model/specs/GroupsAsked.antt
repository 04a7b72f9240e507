-- Questions about groups beside the core's promises: the files and the marks of a group. Also how long marks hold a version without some of
-- them, or with one more file in a group. No public clause that a reader of the core needs cites this module: `ele_groups` uses it.
use Rattle.std.specs.Prelude.{ℕ, ◌==◌, ◌&&◌, not, Bool, true, List, [], Option, filter, map}
use Rattle.std.specs.List.{flat_map}
use Rattle.std.specs.Option.{option_map_or}
use Rattle.ele_model.specs.declared.cover.Cover.{Cover}
use Rattle.ele_model.specs.declared.cover.Cover.TheVariants.{Free}
use Rattle.ele_model.specs.declared.rows.GroupRow.{GroupRow}
use Rattle.ele_model.specs.declared.rows.MarkRow.{MarkRow}
use Rattle.ele_model.specs.Cover.{cover_by, cover_of, longer}
use Rattle.ele_model.specs.GroupRows.{group_named, is_group, is_member}

-- the files of the group of that name, or none if there is no such group
abbrev pub members_of : List GroupRow → List ℕ → List ℕ
members_of rows name = option_map_or (λ row. row.members) (group_named rows name) []

-- the moments of the marks of the group of that name, or none if there is no such group
abbrev pub marks_of : List GroupRow → List ℕ → List ℕ
marks_of rows name = option_map_or (λ row. map (λ mark. mark.at) row.marks) (group_named rows name) []

-- the mark is left out: it is the one at that moment, or without a moment it is any mark of the group
abbrev pub is_left_out : Option ℕ → MarkRow → Bool
is_left_out left mark = option_map_or (λ one. mark.at == one) left true

-- the group's marks, without those of the group of that name that are left out
abbrev pub marks_left : List ℕ → Option ℕ → GroupRow → List MarkRow
marks_left name left row = filter (λ mark. not (is_group name row && is_left_out left mark)) row.marks

-- how long marks of groups that have the file hold, without that mark of that group, or without the whole group
abbrev pub cover_without : List GroupRow → List ℕ → Option ℕ → ℕ → ℕ → Option ℕ → Cover
cover_without rows name left file closed ended = cover_by closed ended (flat_map (marks_left name left) (filter (is_member file) rows))

-- how long they would hold if the group also had the file
abbrev pub cover_with : List GroupRow → List ℕ → ℕ → ℕ → Option ℕ → Cover
cover_with rows name file closed ended =
    longer (option_map_or (λ row. cover_by closed ended row.marks) (group_named rows name) Free) (cover_of rows file closed ended)
