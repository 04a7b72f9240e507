-- The fresh numbers of rows that are there.
use Rattle.std.specs.Prelude.{ℕ, cond, Option, Some, None}
use Rattle.std.specs.List.{list_any}
use Rattle.ele_model.specs.WellFormed.{has_directory}
use Rattle.ele_model.specs.World.{World, is_file, is_held}
use Rattle.ele_renewal.specs.Numbers.{new_directory, new_file, new_version}

-- of the directory, if it is there
abbrev pub directory_across : World → ℕ → Option ℕ
directory_across w id = cond (has_directory w.directories id) (Some (new_directory w.directories id)) None

-- of the file, if it is there
abbrev pub file_across : World → ℕ → Option ℕ
file_across w id = cond (list_any (is_file id) w.files) (Some (new_file w.files id)) None

-- of the file's version, if it is held
abbrev pub version_across : World → (file number : ℕ) → Option ℕ
version_across w file number = cond (is_held w file number) (Some (new_version w.versions file number)) None
