-- A live file has a current version, which ends with its last name.
use Rattle.ele_model.proofs.Basics.{◌≡◌, ℕ, ◌-◌, true, Some, None, arith, find, all-found, found_passes, false≢true, nat_tests}
use Rattle.ele_model.proofs.Words.{VersionRow, Versions, Current, HasParts, World, next_of, is_live, is_version, current_of, ended_at, with_end}
use Rattle.ele_model.proofs.Versions.{all_found}
use Rattle.ele_lists.proofs.Cuts.{any-found as first_passing}
use Rattle.ele_model.proofs.Elements.{find-updated}

-- its last version is held, and has no end
pub record HasCurrent (w : World) (file : ℕ) : Type 0 where
  pub row : VersionRow
  pub found : current_of w file ≡ Some row
  pub own : row.file ≡ file
  pub no_end : row.ended ≡ None

pub has_current : (w : World) (file : ℕ) → HasParts w → is_live w file ≡ true → HasCurrent w file
has_current w file k live = grind (arith, nat_tests, k.holds Versions, k.holds Current, first_passing, found_passes, all-found, all_found, false≢true)

-- it is found as before once it ends
pub last_ends : (w : World) (file : ℕ) (current : HasCurrent w file) → find (is_version file (next_of w.files file - 1)) (with_end w file) ≡ Some (ended_at w.now current.row)
last_ends w file current = grind (arith, nat_tests, find-updated)
