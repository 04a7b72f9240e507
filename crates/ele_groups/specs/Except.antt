-- Marks to leave out. No public clause cites this module.
use Rattle.std.specs.Prelude.{ℕ, List, Option, Some, None, filter}
use Rattle.std.specs.List.{flat_map}
use Rattle.ele_model.specs.declared.cover.Cover.{Cover}
use Rattle.ele_model.specs.declared.rows.GroupRow.{GroupRow}
use Rattle.ele_model.specs.declared.rows.MarkRow.{MarkRow}
use Rattle.ele_model.specs.Cover.{cover_by}
use Rattle.ele_model.specs.GroupRows.{is_member}
use Rattle.ele_model.specs.GroupsAsked.{marks_left}
use Rattle.ele_groups.specs.declared.span.Except.{Except}

-- the group's marks, without those that are left out
abbrev pub marks_but : Option Except → GroupRow → List MarkRow
marks_but None row = row.marks
marks_but (Some except) row = marks_left except.name except.mark row

-- how long they hold
abbrev pub row_cover : Option Except → ℕ → Option ℕ → GroupRow → Cover
row_cover except closed ended row = cover_by closed ended (marks_but except row)

-- how long those of all groups that have the file hold
abbrev pub cover_but : Option Except → List GroupRow → ℕ → ℕ → Option ℕ → Cover
cover_but except rows file closed ended = cover_by closed ended (flat_map (marks_but except) (filter (is_member file) rows))
