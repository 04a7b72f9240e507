-- What a path leads to is there, and so is what a deleted name meant.
use Rattle.ele_state.proofs.Words.{◌≡◌, ◌<◌, ℕ, true, List, Option, Some, Result, Ok, IfOk, IfSome, Refusal, arith, nat_tests, AllByRecursion, all-weaker, Homes, IsHome, IsHoused, IsNameRow, IsPresent, IsSound, IsThere, IsDirectoryThere, Names, Rows, Target, all-found, file_live, file_now, file_there, is_live, is_live_name, is_named, last_dead, live_target, last_has, next_of, parent_home, parent_now, walk_meant, world_of}
use Rattle.ele_state.proofs.ToldVersions.{meant_there}
use Rattle.ele_path.specs.declared.tagged.Tag.{Tag}

module _ (rows : Rows) (sound : IsSound rows) where
  pub parent_is_home : (path : List (List ℕ)) (at : ℕ × List ℕ) → parent_now rows.names path ≡ Ok at → IsHome (world_of rows) at.0
  parent_is_home path at found = let home = parent_home (world_of rows) path at sound.formed found in record { there = home.0; reached = home.1 }

  pub file_is_there : (path : List (List ℕ)) (file : ℕ) → file_now rows.names path ≡ Ok file → 0 < next_of rows.files.files file
  file_is_there path file leads = file_there rows.files.files rows.moment rows.names path file (sound.formed.holds Names).each leads

  pub file_is_live : (path : List (List ℕ)) (file : ℕ) → file_now rows.names path ≡ Ok file → is_live (world_of rows) file ≡ true
  file_is_live path file leads = file_live rows.names path file leads

  lost_is : (P : Target → Type 0) (directory : ℕ) (name : List ℕ) (lost : Target) → AllByRecursion (λ row. P row.target) rows.names → last_dead rows.names directory name ≡ Some lost → P lost
  lost_is P directory name lost all h = grind (arith, nat_tests, last_has (is_named directory name) (λ row. P row.target) rows.names)

  live_is : (P : Target → Type 0) (directory : ℕ) (name : List ℕ) (target : Target) → AllByRecursion (λ row. P row.target) rows.names → live_target rows.names directory name ≡ Some target → P target
  live_is P directory name target all h = grind (arith, nat_tests, all-found (is_live_name directory name) (λ row. P row.target) rows.names)

  files_are : AllByRecursion (λ row. IsThere rows.files.files row.target) rows.names
  files_are = all-weaker (IsNameRow rows.files.files rows.moment) (λ row. IsThere rows.files.files row.target) rows.names (λ row h. h.there) (sound.formed.holds Names).each

  directories_are : AllByRecursion (λ row. IsDirectoryThere rows.directories.items row.target) rows.names
  directories_are = all-weaker (IsHoused rows.directories.items rows.names) (λ row. IsDirectoryThere rows.directories.items row.target) rows.names (λ row h. h.there) (sound.formed.holds Homes).each

  pub lost_is_present : (directory : ℕ) (name : List ℕ) (lost : Target) → last_dead rows.names directory name ≡ Some lost → IsPresent (world_of rows) lost
  lost_is_present directory name lost last = record { file = lost_is (IsThere rows.files.files) directory name lost files_are last; directory = lost_is (IsDirectoryThere rows.directories.items) directory name lost directories_are last }

  live_is_present : (directory : ℕ) (name : List ℕ) (target : Target) → live_target rows.names directory name ≡ Some target → IsPresent (world_of rows) target
  live_is_present directory name target live = record { file = live_is (IsThere rows.files.files) directory name target files_are live; directory = live_is (IsDirectoryThere rows.directories.items) directory name target directories_are live }

  pub lost_are_present : (directory : ℕ) (name : List ℕ) (o : Option Target) → o ≡ last_dead rows.names directory name → IfSome o (λ target. IsPresent (world_of rows) target)
  lost_are_present directory name o is = grind (arith, nat_tests, lost_is_present directory name, is)

  pub live_are_present : (directory : ℕ) (name : List ℕ) (o : Option Target) → o ≡ live_target rows.names directory name → IfSome o (λ target. IsPresent (world_of rows) target)
  live_are_present directory name o is = grind (arith, nat_tests, live_is_present directory name, is)

  pub files_there : (path : List (List ℕ)) (r : Result ℕ Refusal) → r ≡ file_now rows.names path → IfOk r (λ file. 0 < next_of rows.files.files file)
  files_there path r is = grind (arith, nat_tests, file_is_there path, is)

  pub files_live : (path : List (List ℕ)) (r : Result ℕ Refusal) → r ≡ file_now rows.names path → IfOk r (λ file. is_live (world_of rows) file ≡ true)
  files_live path r is = grind (arith, nat_tests, file_live rows.names path, is)

  pub targets_there : (path : List (List ℕ)) (t : Tag) (r : Result Target Refusal) → r ≡ walk_meant (world_of rows) path t → IfOk r (λ target. IsThere rows.files.files target)
  targets_there path t r is = grind (arith, nat_tests, meant_there (world_of rows) sound.formed path t, is)
