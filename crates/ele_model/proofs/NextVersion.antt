-- The version that a file gets next: no version has its number, and so it is the one found by that.
use Rattle.ele_model.proofs.Basics.{◌≡◌, ℕ, ◌-◌, false, List, Some, arith, find, AllByRecursion, nat_tests, all-update_first, find-inserted}
use Rattle.ele_model.proofs.Words.{ended_at, next_version, with_end, with_version, IsVersion, World, next_of, is_version}
use Rattle.ele_model.proofs.Words.{is_version_after, FileRow, VersionRow}

-- no version has the file's next number
pub none_next : (files : List FileRow) (now file : ℕ) (row : VersionRow) → IsVersion files now row → is_version file (next_of files file) row ≡ false
none_next files now file row h = grind (arith, nat_tests)

module _ (w : World) (file : ℕ) (each : AllByRecursion (IsVersion w.files w.now) w.versions) where
  pub new_found : (opened : ℕ) (cells : _) → find (is_version file (next_of w.files file)) (with_version w file opened cells).versions ≡ Some (next_version w file opened cells)
  new_found opened cells = find-inserted (is_version_after file (next_of w.files file)) (is_version file (next_of w.files file)) (next_version w file opened cells) (with_end w file) (grind (arith, nat_tests))
      (grind (arith, nat_tests, all-update_first (is_version file (next_of w.files file - 1)) (IsVersion w.files w.now) (λ row. is_version file (next_of w.files file) row ≡ false) (ended_at w.now) w.versions, none_next w.files w.now file))
