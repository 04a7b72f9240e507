-- Due versions and ripe moments after a change that no file's view sees, as the dropping of an idle file.
use Rattle.ele_model.proofs.Basics.{◌≡◌, ℕ, ap, arith, option_and_then, AllByRecursion, nat_tests, all-any, all-weaker, all-found, filter-same_all}
use Rattle.ele_model.proofs.Words.{DropIdle, after_change, ripe_at, kept_rows, FileView, file_view, due_in, World, is_version, VersionRow}
use Rattle.ele_model.specs.Due.{is_due_at, ripe_of}
use Rattle.ele_model.proofs.Dropped.{dropped, live_other, idle_versions, policy_of-removed}
use Rattle.ele_model.proofs.GroupMarks.{marks_forgotten}
use Rattle.ele_model.proofs.RipeAt.{ripe_at_is}

-- the same versions are held at the same moment, and each one's file is seen alike
pub record SeesSame (w v : World) : Type 0 where
  pub now : v.now ≡ w.now
  pub versions : v.versions ≡ w.versions
  pub views : AllByRecursion (λ (row : VersionRow). file_view v row.file ≡ file_view w row.file) w.versions

module _ (w v : World) (same : SeesSame w v) where
  pub due_same : AllByRecursion (λ row. (at : ℕ) → is_due_at v row at ≡ is_due_at w row at) w.versions
  unfolding is_due_at
  due_same = all-weaker (λ (row : VersionRow). file_view v row.file ≡ file_view w row.file) (λ row. (at : ℕ) → is_due_at v row at ≡ is_due_at w row at) w.versions (λ row e at. ap (λ (view : FileView). due_in view row at) e) same.views

  pub ripe_at_same : (file number : ℕ) → ripe_at v file number ≡ ripe_at w file number
  unfolding ripe_of
  ripe_at_same file number = grind (arith, nat_tests, ripe_at_is, option_and_then, is_version, all-found (is_version file number) (λ (row : VersionRow). file_view v row.file ≡ file_view w row.file) w.versions, same)

  pub kept_same : kept_rows v ≡ kept_rows w
  kept_same = grind (arith, nat_tests, filter-same_all, all-weaker, due_same, same.now)

-- ---- the dropping of an idle file

pub dropped_sees : (w : World) (file : ℕ) → SeesSame w (after_change w (DropIdle file))
dropped_sees w file = grind (arith, nat_tests, dropped, all-weaker, policy_of-removed, live_other, marks_forgotten, idle_versions, all-any)

-- each version has its ripe moment, and is due, as before
pub ripe_at_dropped : (w : World) (file other number : ℕ) → ripe_at (after_change w (DropIdle file)) other number ≡ ripe_at w other number
ripe_at_dropped w file = ripe_at_same w (after_change w (DropIdle file)) (dropped_sees w file)
