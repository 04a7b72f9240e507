-- A version that a handle reads, or that was current at a mark of a group with its file, is held after any event.
use Rattle.ele_model.proofs.Basics.{AllByRecursion, ◌≡◌, inl, inr, ℕ, true, Some, sym, subst, ◌∙◌, arith, find, Ok, false≢true, nat_tests, all-found, found_passes, any-found, all-weaker}
use Rattle.ele_model.proofs.Words.{step, IsHeldRead, Readers, World, is_handle, is_held, is_open, is_version, reads_by, reads_version, HasParts}
use Rattle.ele_lists.proofs.Cuts.{any-found as first_passing}
use Rattle.ele_headline.proofs.HeldStays.{only_due_leave}
use Rattle.ele_model.proofs.Readers.{HasRow, has_row}
use Rattle.ele_world.proofs.Words.{Version, VersionRow, Event}
use Rattle.ele_headline.specs.OnlyDueLeave.{StaysOrWasDue}
use Rattle.ele_world.specs.MarkedStays.{IsMarkedHeld}

pub open_stays : (w : World) (event : Event) (handle file number : ℕ) → HasParts w → reads_by w.handles handle ≡ Ok (Version file number) → is_held ((step w event).1) file number ≡ true
open_stays w event handle file number k is = by (all-found (is_version file number) (StaysOrWasDue w event) w.versions first.0 first.1 (only_due_leave w event k)) where
  its : HasRow w handle (Version file number)
  its = has_row w handle (Version file number) is

  first : (row : VersionRow) × (find (is_version file number) w.versions ≡ Some row)
  first = first_passing (is_version file number) w.versions (subst (IsHeldRead w.versions) its.its (all-found (is_handle handle) (λ row. IsHeldRead w.versions row.reads) w.handles its.row its.found (k.holds Readers)))

  is_read : is_open w.handles file number ≡ true
  is_read = any-found (is_handle handle) (λ row. reads_version file number row.reads) w.handles its.row its.found (rw its.its (grind (arith, nat_tests)))

  own : (first.0.file ≡ file) × (first.0.number ≡ number)
  own = grind (arith, nat_tests, found_passes (is_version file number) w.versions first.0 first.1)

  by : StaysOrWasDue w event first.0 → is_held ((step w event).1) file number ≡ true
  by (inl still) = subst (λ f. is_held ((step w event).1) f number ≡ true) own.0 (subst (λ n. is_held ((step w event).1) first.0.file n ≡ true) own.1 still)
  by (inr leaves) = absurd (false≢true (sym leaves.unread ∙ rw (own.0, own.1) is_read))

pub marked_stays : (w : World) (event : Event) → HasParts w → AllByRecursion (IsMarkedHeld w event) w.versions
marked_stays w event k = grind (arith, nat_tests, all-weaker (StaysOrWasDue w event) (IsMarkedHeld w event) w.versions, only_due_leave w event k, false≢true)
