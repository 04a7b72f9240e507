-- The version that a path had at a moment, by its file and its info.
use Rattle.std.specs.Result.{IfOk, result_map_both}
use Rattle.ele_model.proofs.Basics.{◌≡◌, ℕ, List, AllLater, Option, Some, None, Result, Ok, Err, false, true, find, nat_lt, option_map_or, refl, subst, sym, arith, nat_tests, all-found, found_passes}
use Rattle.ele_model.proofs.Meant.{is_meant, meant_held, then_is}
use Rattle.ele_model.proofs.Versions.{IsFound, all_found}
use Rattle.ele_model.specs.Change.{version_cells}
use Rattle.ele_model.specs.Step.{row_then, version_then}
use Rattle.ele_model.specs.Tagged.{had_closed, had_life, held_or_forgotten, last_number, version_meant}
use Rattle.ele_model.specs.Told.{info_of}
use Rattle.ele_model.specs.Walk.{file_now}
use Rattle.ele_model.specs.WellFormed.{ArePlaced}
use Rattle.ele_model.specs.World.{World, is_held, is_version}
use Rattle.ele_model.specs.declared.refusal.Refusal.{Refusal}
use Rattle.ele_model.specs.declared.rows.VersionInfo.{VersionInfo}
use Rattle.ele_model.specs.declared.rows.VersionRow.{VersionRow}
use Rattle.ele_path.specs.declared.tagged.Tag.{Tag}
use Rattle.ele_path.specs.declared.tagged.Tag.TheVariants as tag
use Rattle.ele_state.specs.Told.{found_of}

-- the file's version that a tag means, with its file
pub told_found : (w : World) (t : Tag) (file : ℕ) (info : VersionInfo) → Ok info ≡ result_map_both info_of (λ (refusal : Refusal). refusal) (version_meant w.files w.versions file t) → Ok (file, info) ≡ found_of (version_meant w.files w.versions file t)
told_found w t file info told = by (version_meant w.files w.versions file t) refl told where
  by : (r : Result VersionRow Refusal) → version_meant w.files w.versions file t ≡ r → Ok info ≡ result_map_both info_of (λ (refusal : Refusal). refusal) r → Ok (file, info) ≡ found_of r
  by (Ok row) meant told = let own = (is_meant w.files w.versions file t row meant).own in cc
  by (Err refusal) meant told = absurd cc

-- the version that the file which the path names now had
pub told_own : (w : World) (path : List (List ℕ)) (moment file : ℕ) (info : VersionInfo) (refusal : Refusal) → nat_lt w.now moment ≡ false → file_now w.names path ≡ Ok file
    → Ok info ≡ result_map_both info_of (λ (refusal : Refusal). refusal) (version_meant w.files w.versions file (tag.At moment)) → Ok (file, info) ≡ found_of (row_then w path moment (Err refusal))
told_own w path moment file info refusal past names told = rw (past, names) (by (find (had_life file moment) w.versions) refl told) where
  by : (o : Option VersionRow) → find (had_life file moment) w.versions ≡ o → Ok info ≡ result_map_both info_of (λ (refusal : Refusal). refusal) (held_or_forgotten o (last_number (had_closed file moment) w.versions)) → Ok (file, info) ≡ found_of (option_map_or Ok o (Err refusal))
  by None is told = absurd cc
  by (Some row) is told = let passes = found_passes (had_life file moment) w.versions row is in let own : row.file ≡ file = grind (arith, nat_tests) in cc

-- ---- the row of the version that a path had

module _ (w : World) (path : List (List ℕ)) (moment : ℕ) where
  -- it is found by its file and number
  pub then_found : AllLater ArePlaced w.versions → (result : Result (ℕ × VersionInfo) Refusal) → result ≡ found_of (version_then w path moment) → IfOk result (λ found. IfOk (version_then w path moment) (λ row. find (is_version found.0 found.1.number) w.versions ≡ Some row))
  then_found placed (Err refusal) told = tt
  then_found placed (Ok found) told = by (version_then w path moment) refl told where
    by : (r : Result VersionRow Refusal) → version_then w path moment ≡ r → Ok found ≡ found_of r → IfOk r (λ row. find (is_version found.0 found.1.number) w.versions ≡ Some row)
    by (Ok row) is told =
        let meant = then_is w path moment row is in
        let same : found ≡ (row.file, info_of row) = cc in
        subst (λ (f : ℕ × VersionInfo). find (is_version f.0 f.1.number) w.versions ≡ Some row) (sym same) (all-found meant.passes (IsFound w.versions) w.versions row meant.found (all_found w.versions placed))
    by (Err refusal) is told = tt

  -- so it is held
  pub then_held : (result : Result (ℕ × VersionInfo) Refusal) → result ≡ found_of (version_then w path moment) → IfOk result (λ found. is_held w found.0 found.1.number ≡ true)
  then_held (Err refusal) told = tt
  then_held (Ok found) told = by (version_then w path moment) refl told where
    by : (r : Result VersionRow Refusal) → version_then w path moment ≡ r → Ok found ≡ found_of r → is_held w found.0 found.1.number ≡ true
    by (Ok row) is told = let same : found ≡ (row.file, info_of row) = cc in subst (λ (f : ℕ × VersionInfo). is_held w f.0 f.1.number ≡ true) (sym same) (meant_held w row.file row (then_is w path moment row is))
    by (Err refusal) is told = absurd cc

-- ---- the row of the file's version of that number

pub record IsRowOf (w : World) (file number : ℕ) (row : VersionRow) : Type 0 where
  pub own : row.file ≡ file
  pub same : row.number ≡ number
  pub cells : version_cells w file number ≡ row.cells

pub row_of : (w : World) (file number : ℕ) (row : VersionRow) → find (is_version file number) w.versions ≡ Some row → IsRowOf w file number row
row_of w file number row held =
    let passes = found_passes (is_version file number) w.versions row held in
    record { own = grind (arith, nat_tests); same = grind (arith, nat_tests); cells = rw held refl }
