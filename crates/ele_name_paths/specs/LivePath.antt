-- The path of a file or directory by the live names, or by the last ones.
use Rattle.std.specs.Prelude.{ℕ, zero, suc, Bool, List, [], ◌∷◌, ◌++◌, length, Option, Some, None, find, if◌then◌else◌, Vec}
use Rattle.std.specs.Option.{option_and_then, option_map, option_or}
use Rattle.ele_lists.specs.Last.{last_passing}
use Rattle.ele_model.specs.declared.rows.NameRow.{NameRow}
use Rattle.ele_model.specs.declared.rows.Target.{Target}
use Rattle.ele_model.specs.declared.rows.Target.TheVariants.{File, Directory}
use Rattle.ele_model.specs.NameRows.{is_live_directory, is_target_directory}
use Rattle.ele_model.specs.World.{is_live_name_of, is_target_file, root}
use Rattle.ele_name_paths.specs.declared.path.Above.{Above}
use Rattle.ele_name_paths.specs.declared.path.Above.TheVariants.{Live, Last}

-- a live name of the target
abbrev pub is_live_name_to : Target → NameRow → Bool
is_live_name_to (File id) row = is_live_name_of id row
is_live_name_to (Directory id) row = is_live_directory id row

-- a name of the target, live or dead
abbrev pub is_name_to : Target → NameRow → Bool
is_name_to (File id) row = is_target_file id row.target
is_name_to (Directory id) row = is_target_directory id row.target

-- the name of a target that a path goes by: its first live one; or, by last names, the one made last if no name lives
abbrev pub name_by : Above → List NameRow → Target → Option NameRow
name_by Live rows target = find (is_live_name_to target) rows
name_by Last rows target = option_or (find (is_live_name_to target) rows) (last_passing (is_name_to target) rows)

-- the root has the empty path. Any other target has its name after the path of that name's directory. There is no path without a name, nor
-- one that has more names than this
abbrev pub path_within : ℕ → Above → List NameRow → Target → Option (List (List ℕ))
path_within zero above rows target = if is_target_directory root target then Some [] else None
path_within (suc most) above rows target =
    if is_target_directory root target then Some []
    else option_and_then (λ row. option_map (λ names. names ++ row.name ∷ []) (path_within most above rows (Directory row.directory))) (name_by above rows target)

-- the names from the root to the target. No path has more names than there are rows
abbrev pub path_by : Above → List NameRow → Target → Option (List (List ℕ))
path_by above rows target = path_within (length rows) above rows target

-- by live names alone
abbrev pub live_path : List NameRow → Target → Option (List (List ℕ))
live_path rows target = path_by Live rows target

-- by the live names, or the last ones where none lives
abbrev pub last_path : List NameRow → Target → Option (List (List ℕ))
last_path rows target = path_by Last rows target

-- the path as a list of names
abbrev pub names_in : {A : Type 0} → Option (Vec (List ℕ) A) → Option (List (List ℕ))
names_in path = option_map (λ names. names.items) path
