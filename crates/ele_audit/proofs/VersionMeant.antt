-- The version that a tag means, as an option.
use Rattle.ele_audit.proofs.Basics.{ℕ, ◌≡◌, refl, Option, Some, None, option_and_then}
use Rattle.std.specs.Prelude.{List, Result, Ok, Err, find}
use Rattle.std.specs.Option.{option_map, option_map_or}
use Rattle.std.specs.Result.{result_ok}
use Rattle.ele_model.specs.Tagged.{held_or_forgotten, version_found, version_meant}
use Rattle.ele_model.specs.World.{World, is_file, next_of}
use Rattle.ele_model.specs.declared.rows.FileRow.{FileRow}
use Rattle.ele_model.specs.declared.refusal.Refusal.{Refusal}
use Rattle.ele_model.specs.declared.rows.VersionRow.{VersionRow}
use Rattle.ele_path.specs.declared.tagged.Tag.{Tag}

-- it is the version of the file, if there is a file
pub found_is : (w : World) (found : Result ℕ Refusal) (tag : Tag)
    → result_ok (version_found w found tag) ≡ option_and_then (λ file. result_ok (version_meant w.files w.versions file tag)) (result_ok found)
found_is w (Ok file) tag = refl
found_is w (Err refusal) tag = refl

-- a version that isn't held is none
pub held_ok : (found : Option VersionRow) (before : Option ℕ) → result_ok (held_or_forgotten found before) ≡ found
held_ok (Some row) before = refl
held_ok None before = refl

-- the next number of a file, if there is one
kept_or : (found : Option FileRow) → option_map_or (λ (row : FileRow). row.next) found 0 ≡ option_map_or (λ (next : ℕ). next) (option_map (λ (row : FileRow). row.next) found) 0
kept_or (Some row) = refl
kept_or None = refl

pub next_is : (files : List FileRow) (file : ℕ) → next_of files file ≡ option_map_or (λ (next : ℕ). next) (option_map (λ (row : FileRow). row.next) (find (is_file file) files)) 0
next_is files file = kept_or (find (is_file file) files)
