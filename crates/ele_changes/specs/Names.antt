-- The names of two moments: which are at one of them alone, and which of these belong together.
use Rattle.std.specs.Prelude.{ℕ, nat_le, Bool, false, not, ◌&&◌, ◌||◌, List, Option, Some, None, filter, find, if◌then◌else◌}
use Rattle.std.specs.List.{list_any}
use Rattle.std.specs.Option.{option_map_or}
use Rattle.ele_model.specs.declared.rows.NameRow.{NameRow}
use Rattle.ele_model.specs.declared.rows.Target.{Target}
use Rattle.ele_model.specs.declared.rows.Target.TheVariants.{File, Directory}
use Rattle.ele_model.specs.NameRows.{covers, is_named, is_target_directory}
use Rattle.ele_model.specs.World.{is_target_file}
use Rattle.ele_changes.specs.declared.told.NameChange.{NameChange}
use Rattle.ele_changes.specs.declared.told.NameChange.TheVariants.{Gained, Kept, Lost, Moved}

-- ---- names at one moment alone

-- a name of the target
abbrev pub is_name_of : Target → NameRow → Bool
is_name_of (File id) row = is_target_file id row.target
is_name_of (Directory id) row = is_target_directory id row.target

-- both are names of one target, in one directory and of the same bytes
abbrev pub is_same_name : NameRow → NameRow → Bool
is_same_name row other = is_named row.directory row.name other && is_name_of row.target other

-- the name is there at the moment: by this row, or by another one
abbrev pub is_there : ℕ → List NameRow → NameRow → Bool
is_there moment rows row = covers moment row || list_any (λ other. covers moment other && is_same_name row other) rows

-- the row covers the one moment, and its name isn't there at the other
abbrev pub is_only_at : ℕ → ℕ → List NameRow → NameRow → Bool
is_only_at here there rows row = covers here row && not (is_there there rows row)

-- the names that are there at the one moment and not at the other
abbrev pub only_at : ℕ → ℕ → List NameRow → List NameRow
only_at here there rows = filter (is_only_at here there rows) rows

-- ---- names that belong together

-- the first of these names that is one of the target
abbrev pub name_among : List NameRow → Target → Option NameRow
name_among rows target = find (is_name_of target) rows

-- the row is the first of these names that its target has
abbrev pub is_first : List NameRow → NameRow → Bool
is_first rows row = option_map_or (is_same_name row) (name_among rows row.target) false

-- of a name that is at one moment alone: the name of its target at the other moment alone. Only the first names of a target belong together
abbrev pub other_name : List NameRow → List NameRow → NameRow → Option NameRow
other_name own others row = if is_first own row then name_among others row.target else None

-- ---- what the row of a name tells

-- a name that is lost tells nothing if its target has another one in its place, which tells of both
abbrev pub lost_name : NameRow → Option NameRow → Option NameChange
lost_name row None = Some (Lost row)
lost_name row (Some other) = None

abbrev pub gained_name : NameRow → Option NameRow → Option NameChange
gained_name row None = Some (Gained row)
gained_name row (Some old) = Some (Moved old row)

-- the name of a change at the first moment, and at the second
abbrev pub first_name : NameChange → Option NameRow
first_name (Gained row) = None
first_name (Lost row) = Some row
first_name (Moved old row) = Some old
first_name (Kept row) = Some row

abbrev pub second_name : NameChange → Option NameRow
second_name (Gained row) = Some row
second_name (Lost row) = None
second_name (Moved old row) = Some row
second_name (Kept row) = Some row

-- the file or directory whose name it is
abbrev pub target_of : NameChange → Target
target_of (Gained row) = row.target
target_of (Lost row) = row.target
target_of (Moved old row) = row.target
target_of (Kept row) = row.target

-- the target has a name at the moment
abbrev pub is_named_at : ℕ → List NameRow → Target → Bool
is_named_at moment rows target = list_any (λ row. covers moment row && is_name_of target row) rows

-- the target had got a name by the moment
abbrev pub is_known_by : ℕ → List NameRow → Target → Bool
is_known_by moment rows target = list_any (λ row. nat_le row.birth moment && is_name_of target row) rows
