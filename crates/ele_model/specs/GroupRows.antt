-- What rows of groups say of a name, a file or a moment, and changes of groups.
use Rattle.std.specs.Prelude.{ℕ, ◌==◌, ◌&&◌, nat_le, nat_lt, not, Bool, true, false, List, [], ◌∷◌, ◌++◌, Option, find, filter, map}
use Rattle.std.specs.List.{flat_map, list_any}
use Rattle.std.specs.Option.{option_map_or}
use Rattle.std.specs.Str.{bytes_eq}
use Rattle.ele_lists.specs.Lists.{update_first, remove_first}
use Rattle.ele_model.specs.declared.rows.GroupRow.{GroupRow}
use Rattle.ele_model.specs.declared.rows.MarkRow.{MarkRow}

-- a new group, which has no file and no mark
abbrev pub new_group : List ℕ → GroupRow
new_group name = record { name = name; members = []; marks = [] }

-- the group has that name
abbrev pub is_group : List ℕ → GroupRow → Bool
is_group name row = bytes_eq row.name name

-- the group has the file
abbrev pub is_member : ℕ → GroupRow → Bool
is_member file row = list_any (λ member. member == file) row.members

-- the mark was made at the moment
abbrev pub is_mark : ℕ → MarkRow → Bool
is_mark moment mark = mark.at == moment

-- the group was marked at the moment
abbrev pub has_mark : ℕ → GroupRow → Bool
has_mark moment row = list_any (is_mark moment) row.marks

-- the group's mark at the moment
abbrev pub mark_at : ℕ → GroupRow → Option MarkRow
mark_at moment row = find (is_mark moment) row.marks

-- the group of that name
abbrev pub group_named : List GroupRow → List ℕ → Option GroupRow
group_named rows name = find (is_group name) rows

-- some group has that name
abbrev pub has_group : List GroupRow → List ℕ → Bool
has_group rows name = list_any (is_group name) rows

-- the group of that name has that file
abbrev pub has_member : List GroupRow → List ℕ → ℕ → Bool
has_member rows name file = option_map_or (is_member file) (group_named rows name) false

-- the group of that name was marked at the moment
abbrev pub is_marked_at : List GroupRow → List ℕ → ℕ → Bool
is_marked_at rows name moment = option_map_or (has_mark moment) (group_named rows name) false

-- the group with one file more
abbrev pub adds : ℕ → GroupRow → GroupRow
adds file row = record row { members = row.members ++ file ∷ [] }

-- the group without the file
abbrev pub removes : ℕ → GroupRow → GroupRow
removes file row = record row { members = remove_first (λ member. member == file) row.members }

-- the group with one mark more
abbrev pub marks : MarkRow → GroupRow → GroupRow
marks mark row = record row { marks = row.marks ++ mark ∷ [] }

-- the group without the mark at the moment
abbrev pub unmarks : ℕ → GroupRow → GroupRow
unmarks moment row = record row { marks = remove_first (is_mark moment) row.marks }

-- with a new group after the others
abbrev pub with_group : List ℕ → List GroupRow → List GroupRow
with_group name rows = rows ++ new_group name ∷ []

-- without the group of that name
abbrev pub without_group : List ℕ → List GroupRow → List GroupRow
without_group name rows = remove_first (is_group name) rows

-- with the file in the group of that name
abbrev pub with_member : List ℕ → ℕ → List GroupRow → List GroupRow
with_member name file rows = update_first (is_group name) (adds file) rows

-- without the file in the group of that name
abbrev pub without_member : List ℕ → ℕ → List GroupRow → List GroupRow
without_member name file rows = update_first (is_group name) (removes file) rows

-- with the mark in the group of that name
abbrev pub with_mark : List ℕ → MarkRow → List GroupRow → List GroupRow
with_mark name mark rows = update_first (is_group name) (marks mark) rows

-- without the mark at the moment in the group of that name
abbrev pub without_mark : List ℕ → ℕ → List GroupRow → List GroupRow
without_mark name moment rows = update_first (is_group name) (unmarks moment) rows

-- the group without the file, if it has it
abbrev pub forgets : ℕ → GroupRow → GroupRow
forgets file row = record row { members = filter (λ member. not (member == file)) row.members }

-- every group without the file
abbrev pub forgotten : ℕ → List GroupRow → List GroupRow
forgotten file rows = map (forgets file) rows

-- a version that was current from the one moment until the other, or still is, was current at the mark
abbrev pub covers_moment : ℕ → Option ℕ → ℕ → Bool
covers_moment closed ended mark = nat_le closed mark && option_map_or (λ end. nat_lt mark end) ended true

-- the mark is in force at the moment: it has no end, or a later one
abbrev pub is_in_force : ℕ → MarkRow → Bool
is_in_force at mark = option_map_or (λ until. nat_lt at until) mark.until true

-- the mark covers that time, and is in force at the moment
abbrev pub keeps_at : ℕ → Option ℕ → ℕ → MarkRow → Bool
keeps_at closed ended at mark = covers_moment closed ended mark.at && is_in_force at mark

-- some mark of the group that covers that time is in force at the moment
abbrev pub has_covering : ℕ → Option ℕ → ℕ → GroupRow → Bool
has_covering closed ended at row = list_any (keeps_at closed ended at) row.marks

-- some mark that covers that time, of a group that has the file, is in force at the moment
abbrev pub is_marked : List GroupRow → ℕ → ℕ → Option ℕ → ℕ → Bool
is_marked rows file closed ended at = list_any (λ row. is_member file row && has_covering closed ended at row) rows

-- the marks of groups that have the file
abbrev pub marks_over : List GroupRow → ℕ → List MarkRow
marks_over rows file = flat_map (λ row. row.marks) (filter (is_member file) rows)
