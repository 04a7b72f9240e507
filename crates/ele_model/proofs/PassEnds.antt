-- A pass, one clean event after another: if nothing disturbs it, it removes the due versions, and no others.
use Rattle.ele_model.proofs.Basics.{nat_tests, arith, ◌≡◌, ℕ, suc, zero, true, not, List, Option, Some, None, refl, ap, ◌∙◌, IfSome, all-weaker, find-cut, filter-all, ◌+◌, ◌<◌, length, add-one, IsSome, cases_lt, length-remove_first, length-split}
use Rattle.ele_model.proofs.Words.{CleanOne, Key, VersionRow, is_due_at, kept_rows, after_cleans, IsPass, first_due, Take, after_change, clean_step, HasParts, World, is_version, IsCleaned, HasRemoved, IsFinished}
use Rattle.ele_model.specs.Scan.{due_key}
use Rattle.ele_model.proofs.Cleans.{clean_of}
use Rattle.ele_model.proofs.DropViews.{dropped_sees, kept_same}
use Rattle.ele_model.proofs.DueRows.{IsFirst, first_is_due, first_of_rows}
use Rattle.ele_model.proofs.RemovalOrder.{removal_order, taken}
use Rattle.ele_model.proofs.RipeMoments.{ripens}
use Rattle.ele_model.proofs.StepKeeps.{step_keeps}
use Rattle.ele_model.proofs.Views.{now_of, placed_of}
use Rattle.ele_model.proofs.Dropped.{dropped_versions}

-- a clean leaves what is kept
clean_keeps_kept : (w : World) → HasParts w → kept_rows ((clean_step w).1) ≡ kept_rows w
clean_keeps_kept w k = by (first_due w) refl where
  by : (o : Option Key) → first_due w ≡ o → kept_rows ((clean_of w o).1) ≡ kept_rows w
  by None e = refl
  by (Some key) e =
      let due = first_is_due w key (placed_of w k) e in
      let at = find-cut (is_version key.file key.number) w.versions due.row due.found in
      kept_same (after_change w (Take key.file key.number)) _ (dropped_sees (after_change w (Take key.file key.number)) key.file)
      ∙ ap kept_rows (taken w key.file key.number due.row due.found)
      ∙ (removal_order w at.before due.row at.behind k at.whole due.due).kept

pub cleaned_keeps_kept : (n : ℕ) (w : World) → HasParts w → (kept_rows (after_cleans n w) ≡ kept_rows w) × HasParts (after_cleans n w)
cleaned_keeps_kept zero w k = (refl, k)
cleaned_keeps_kept (suc n) w k = grind (arith, nat_tests, cleaned_keeps_kept n ((clean_step w).1) (step_keeps w CleanOne tt k), step_keeps w CleanOne tt k, clean_keeps_kept w k)

-- ---- if the scan is empty, nothing is due

pub nothing_due : (w : World) → HasParts w → first_due w ≡ None → kept_rows w ≡ w.versions
unfolding due_key
nothing_due w k h = filter-all (λ row. not (is_due_at w row w.now)) w.versions (all-weaker (λ row. IfSome (due_key w row) (IsFirst (first_due w))) (λ row. not (is_due_at w row w.now) ≡ true) w.versions no_key (first_of_rows w)) where
  no_key : (row : VersionRow) → IfSome (due_key w row) (IsFirst (first_due w)) → not (is_due_at w row w.now) ≡ true
  no_key row none = grind (arith, nat_tests, h, ripens w k row w.now, now_of w k)

-- what a pass leaves
pub pass_leaves_kept : (w : World) (removed : ℕ) (after : World) → HasParts w → IsPass w removed after → after.versions ≡ kept_rows w
pass_leaves_kept w removed after k pass = grind (arith, nat_tests, cleaned_keeps_kept removed w k, nothing_due (after_cleans removed w))

-- ---- how many go, and how it ends

-- no clean event yet
pub cleaned_none : (w : World) → IsCleaned w 0 w
cleaned_none w = record { each = λ k h. absurd (omega arith); after_is = refl }

after_cleans-end : (n : ℕ) (w : World) → after_cleans (suc n) w ≡ (clean_step (after_cleans n w)).1
after_cleans-end zero w = refl
after_cleans-end (suc n) w = after_cleans-end n ((clean_step w).1)

-- one more
pub cleaned_more : (w : World) (n : ℕ) (v : World) → IsCleaned w n v → IsSome (first_due v) → IsCleaned w (n + 1) ((clean_step v).1)
cleaned_more w n v so_far some = grind (arith, nat_tests, cases_lt, after_cleans-end, add-one)

-- one version goes
clean_removes : (w : World) → HasParts w → IsSome (first_due w) → length ((clean_step w).1).versions + 1 ≡ length w.versions
clean_removes w keeps some = by (first_due w) refl some where
  by : (o : Option Key) → first_due w ≡ o → IsSome o → length ((clean_of w o).1).versions + 1 ≡ length w.versions
  by None e h = absurd cc
  by (Some key) e h = grind (arith, nat_tests, first_is_due w key (placed_of w keeps) e, placed_of w keeps, dropped_versions (after_change w (Take key.file key.number)) key.file, length-remove_first (is_version key.file key.number) w.versions)

-- and so many by so many events
cleaned_removes : (n : ℕ) (w : World) → HasParts w → ((k : ℕ) → k < n → IsSome (first_due (after_cleans k w))) → length (after_cleans n w).versions + n ≡ length w.versions
cleaned_removes zero w keeps each = omega arith
cleaned_removes (suc n) w keeps each =
    omega (arith, clean_removes w keeps (each 0 (omega arith)), cleaned_removes n ((clean_step w).1) (step_keeps w CleanOne tt keeps) (λ k h. each (suc k) (omega arith)))

-- the end, when the budget is spent
pub budget_ends : (w : World) (n : ℕ) (v : World) → HasParts w → IsCleaned w n v → HasRemoved w n v
budget_ends w n v keeps so_far = grind (arith, nat_tests, cleaned_removes, cleaned_keeps_kept)

-- the end, when nothing is due any more
pub pass_finishes : (w : World) (n : ℕ) (v : World) (budget : ℕ) → HasParts w → IsCleaned w n v → first_due v ≡ None → n < budget → IsFinished w budget n v
pass_finishes w n v budget keeps so_far none below =
    let pass : IsPass w n v = record { cleaned = so_far; last = none } in
    let left = pass_leaves_kept w n v keeps pass in
    record {
      pass = pass;
      below = below;
      kept = left;
      count = omega (arith, cleaned_removes n w keeps so_far.each, ap (λ (u : World). length u.versions) so_far.after_is, ap (λ (rows : List VersionRow). length rows) left, length-split (λ row. is_due_at w row w.now) w.versions);
    }
