-- Which ripe moments change when handles open and close: that of a version that a handle reads, and no other.
use Rattle.ele_model.proofs.Basics.{nat_tests, arith, ◌≡◌, ℕ, ◌||◌, true, false, cond, None, refl, ◌∙◌, Ok, list_any-append, remove_first, list_any-remove_first}
use Rattle.ele_model.proofs.Words.{after_change, OpenHandle, ShutHandle, ripe_at, Reads, cover_of, free_moment, World, is_handle, is_open, reads_by, reads_version}
use Rattle.ele_model.proofs.Neighbours.{AreInOrder, found_moment, ripe_at_near}

-- an open version has none
pub read_moment : (w : World) (file number : ℕ) → AreInOrder w.files w.versions → is_open w.handles file number ≡ true → ripe_at w file number ≡ None
read_moment w file number ordered is_read = ripe_at_near w ordered file number ∙ rw is_read refl

module _ (w : World) (number : ℕ) (reads : Reads) where
  -- a handle more that reads this opens just what it reads
  pub open_more : (f n : ℕ) → is_open (after_change w (OpenHandle number reads)).handles f n ≡ (is_open w.handles f n || reads_version f n reads)
  open_more f n = grind (arith, nat_tests, list_any-append, reads_version, is_open)

  -- no other moment changes
  pub opened_others : AreInOrder w.files w.versions → (f n : ℕ) → reads_version f n reads ≡ false → ripe_at (after_change w (OpenHandle number reads)) f n ≡ ripe_at w f n
  opened_others ordered f n other = grind (arith, nat_tests, found_moment w (after_change w (OpenHandle number reads)) f n ordered ordered, open_more f n)

  -- and what it reads has none
  pub opened_own : AreInOrder w.files w.versions → (f n : ℕ) → reads_version f n reads ≡ true → ripe_at (after_change w (OpenHandle number reads)) f n ≡ None
  opened_own ordered f n own = grind (arith, nat_tests, read_moment (after_change w (OpenHandle number reads)) f n ordered, open_more f n)

module _ (w : World) (number : ℕ) (reads : Reads) (is : reads_by w.handles number ≡ Ok reads) where
  -- what else was open is so without the handle
  pub open_still : (f n : ℕ) → reads_version f n reads ≡ false → is_open (remove_first (is_handle number) w.handles) f n ≡ is_open w.handles f n
  open_still f n other = grind (arith, nat_tests, list_any-remove_first (is_handle number) (λ row. reads_version f n row.reads) w.handles)

  -- and has the moment that it had
  pub shut_others : AreInOrder w.files w.versions → (f n : ℕ) → reads_version f n reads ≡ false → ripe_at (after_change w (ShutHandle number)) f n ≡ ripe_at w f n
  shut_others ordered f n other = found_moment w (after_change w (ShutHandle number)) f n ordered ordered (λ closed ended. refl) refl refl (open_still f n other) refl refl

-- the version that the handle read still has none if another handle reads it, and else the one that it has unread
pub shut_own : (w : World) (handle file number : ℕ) → AreInOrder w.files w.versions → ripe_at (after_change w (ShutHandle handle)) file number ≡ cond (is_open (remove_first (is_handle handle) w.handles) file number) None (free_moment w (cover_of w.groups file) file number)
shut_own w handle file number ordered = ripe_at_near (after_change w (ShutHandle handle)) ordered file number
