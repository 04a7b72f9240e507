-- Where a path leads, name by name from the root.
use Rattle.std.specs.Prelude.{ℕ, ◌-◌, ◌==◌, ◌&&◌, ◌||◌, Bool, false, List, [], ◌∷◌, length, take, slice_get, is_none, Option, find, Result, Ok, Err}
use Rattle.std.specs.Option.{option_map, option_map_or}
use Rattle.std.specs.Str.{bytes_eq}
use Rattle.ele_model.specs.declared.refusal.Refusal.{Refusal}
use Rattle.ele_model.specs.declared.refusal.Refusal.TheVariants.{NoEntry, NotDirectory, IsDirectory, IsRoot}
use Rattle.ele_model.specs.declared.rows.NameRow.{NameRow}
use Rattle.ele_model.specs.declared.rows.Target.{Target}
use Rattle.ele_model.specs.declared.rows.Target.TheVariants.{File, Directory}
use Rattle.ele_model.specs.NameRows.{is_target_directory}
use Rattle.ele_model.specs.World.{root}

-- a live name in the directory
abbrev pub is_live_name : ℕ → List ℕ → NameRow → Bool
is_live_name directory name row = (row.directory == directory) && (bytes_eq row.name name && is_none row.death)

-- what the live name in the directory means
abbrev pub live_target : List NameRow → ℕ → List ℕ → Option Target
live_target rows directory name = option_map (λ row. row.target) (find (is_live_name directory name) rows)

-- the walk along the names from a target, with a function for what a name in a directory means. A name without a target is NoEntry, and one
-- after a file is NotDirectory
abbrev pub walk_by : (ℕ → List ℕ → Option Target) → Target → List (List ℕ) → Result Target Refusal
walk_by leads at [] = Ok at
walk_by leads (File file) (name ∷ names) = Err NotDirectory
walk_by leads (Directory directory) (name ∷ names) =
    option_map_or (λ target. walk_by leads target names) (leads directory name) (Err NoEntry)

-- the walk along live names
abbrev pub walk : List NameRow → Target → List (List ℕ) → Result Target Refusal
walk rows at names = walk_by (live_target rows) at names

-- the walk from the root
abbrev pub walk_now : List NameRow → List (List ℕ) → Result Target Refusal
walk_now rows path = walk rows (Directory root) path

abbrev pub file_at : Result Target Refusal → Result ℕ Refusal
file_at (Ok (File file)) = Ok file
file_at (Ok (Directory directory)) = Err IsDirectory
file_at (Err refusal) = Err refusal

-- the file that the path names
abbrev pub file_now : List NameRow → List (List ℕ) → Result ℕ Refusal
file_now rows path = file_at (walk_now rows path)

abbrev pub directory_in : Result Target Refusal → Result ℕ Refusal
directory_in (Ok (Directory directory)) = Ok directory
directory_in (Ok (File file)) = Err NotDirectory
directory_in (Err refusal) = Err refusal

-- the directory that the path names
abbrev pub directory_now : List NameRow → List (List ℕ) → Result ℕ Refusal
directory_now rows path = directory_in (walk_now rows path)

abbrev pub directory_at : List ℕ → Result Target Refusal → Result (ℕ × List ℕ) Refusal
directory_at name (Ok (Directory directory)) = Ok (directory, name)
directory_at name (Ok (File file)) = Err NotDirectory
directory_at name (Err refusal) = Err refusal

-- the directory of the path's last name, and that name; the root has neither
abbrev pub parent_now : List NameRow → List (List ℕ) → Result (ℕ × List ℕ) Refusal
parent_now rows path =
    option_map_or (λ name. directory_at name (walk_now rows (take (length path - 1) path))) (slice_get path (length path - 1)) (Err IsRoot)

-- the walk along the names from a target passes through the directory
abbrev pub comes_through : List NameRow → ℕ → Target → List (List ℕ) → Bool
comes_through rows id at [] = is_target_directory id at
comes_through rows id (File file) (name ∷ names) = false
comes_through rows id (Directory directory) (name ∷ names) =
    (directory == id) || option_map_or (λ target. comes_through rows id target names) (live_target rows directory name) false

-- the path's last name is in the target that is moved, or below it
abbrev pub stands_in : List NameRow → Target → List (List ℕ) → Bool
stands_in rows (File file) path = false
stands_in rows (Directory id) path = comes_through rows id (Directory root) (take (length path - 1) path)
