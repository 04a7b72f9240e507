-- The law of any due versions, by one due row after another from the first on: whether the others are due is the same after each.
use Rattle.ele_model.proofs.Basics.{◌≡◌, ℕ, Bool, true, false, not, cond, List, [], ◌∷◌, ◌++◌, Some, refl, ap, sym, subst, ◌∙◌, ◌&&◌, arith, nat_tests, filter, find, remove_first, AllByRecursion, AllLater, append_assoc}
use Rattle.ele_model.proofs.Basics.{all-any, all-append, all-both, all-filter, all-right, all-weaker, filter-both, filter-same_all, filter-swap, later-around, remove_first-at}
use Rattle.ele_lists.proofs.Alls.{all-left}
use Rattle.ele_lists.proofs.Cuts.{find-at}
use Rattle.ele_model.proofs.Words.{ArePlaced, Take, after_change, HasParts, World, is_version}
use Rattle.ele_world.proofs.Words.{VersionRow}
use Rattle.ele_world.specs.AnyDueLeave.{AreDue, LeavesOthersDue, without_versions}
use Rattle.ele_model.specs.Due.{is_due, is_due_at}
use Rattle.ele_model.proofs.DueRows.{due_has_ended, due_is_unread}
use Rattle.ele_model.proofs.Formed.{well_formed}
use Rattle.ele_model.proofs.KeptVersions.{take_keeps}
use Rattle.ele_model.proofs.RemovalOrder.{IsBeside, stays, sides}
use Rattle.ele_model.proofs.Versions.{IsFound, all_found, apart}
use Rattle.ele_model.proofs.Views.{placed_of}

-- the world with these versions
abbrev pub with_rows : World → List VersionRow → World
with_rows w rows = record w { versions = rows }

-- the version is due in the one world as in the other
abbrev pub IsDueAs : World → World → VersionRow → Type 0
IsDueAs w v row = is_due_at v row w.now ≡ is_due_at w row w.now

-- ---- one due row goes

module _ (w : World) (before : List VersionRow) (row : VersionRow) (behind : List VersionRow) (k : HasParts w) (whole : w.versions ≡ before ++ row ∷ behind) (due : is_due_at w row w.now ≡ true) where
  abbrev own : VersionRow → Bool
  own = is_version row.file row.number

  none_before : AllByRecursion (λ x. own x ≡ false) before
  none_before = all-weaker (λ x. ArePlaced x row) (λ x. own x ≡ false) before (λ x. apart x row) (later-around ArePlaced before row behind (subst (AllLater ArePlaced) whole (placed_of w k))).0

  is_own : own row ≡ true
  is_own = grind (arith, nat_tests)

  found : find own w.versions ≡ Some row
  found = ap (find own) whole ∙ find-at own before row behind none_before is_own

  taken : after_change w (Take row.file row.number) ≡ with_rows w (before ++ behind)
  taken = ap (with_rows w) (ap (remove_first own) whole ∙ remove_first-at own before row behind none_before is_own)

  due_goes : HasParts (with_rows w (before ++ behind))
  due_goes = subst HasParts taken (take_keeps w row.file row.number (λ x is. grind (arith, nat_tests, found, due_has_ended w row w.now due)) (due_is_unread w row w.now due) k)

  others_same : AllByRecursion (IsDueAs w (with_rows w (before ++ behind))) (before ++ behind)
  others_same = all-weaker (IsBeside row) (IsDueAs w (with_rows w (before ++ behind))) (before ++ behind) (stays w before row behind k whole w.now due) (sides w before row behind k whole)

-- ---- all that the test names are removed, from the first on

-- a row that the test names is due
abbrev IsDueIf : (ℕ → ℕ → Bool) → World → VersionRow → Type 0
IsDueIf gone w row = gone row.file row.number ≡ true → is_due_at w row w.now ≡ true

abbrev pub remains : (ℕ → ℕ → Bool) → VersionRow → Bool
remains gone row = not (gone row.file row.number)

-- with these versions alone the world is well formed, and each is due as in the world with all
pub record StaysDue (w : World) (rows : List VersionRow) : Type 0 where
  pub formed : HasParts (with_rows w rows)
  pub same : AllByRecursion (IsDueAs w (with_rows w rows)) rows

module _ (gone : ℕ → ℕ → Bool) where
  abbrev left : List VersionRow → List VersionRow
  left rows = filter (remains gone) rows

  -- after those that were already looked at
  go : (w : World) (before rows : List VersionRow) → HasParts w → w.versions ≡ before ++ rows → AllByRecursion (IsDueIf gone w) rows → StaysDue w (before ++ left rows)
  go w before [] k whole due = record {
    formed = subst (λ rows. HasParts (with_rows w rows)) whole k;
    same = subst (λ rows. AllByRecursion (IsDueAs w (with_rows w rows)) rows) whole (all-any (IsDueAs w w) w.versions (λ row. refl));
  }
  go w before (row ∷ rows) k whole due = elim (gone row.file row.number) as (λ b. gone row.file row.number ≡ b → StaysDue w (before ++ cond (not b) (row ∷ left rows) (left rows))) [
    | false ↦ λ e. subst (StaysDue w) (append_assoc before (row ∷ []) (left rows)) (go w (before ++ row ∷ []) rows k (whole ∙ sym (append_assoc before (row ∷ []) rows)) due.1)
    | true ↦ λ e.
        let v = with_rows w (before ++ rows) in
        let same = others_same w before row rows k whole (due.0 e) in
        let dues = all-weaker (λ x. IsDueIf gone w x × IsDueAs w v x) (IsDueIf gone v) rows (λ x h named. h.1 ∙ h.0 named) (all-both (IsDueIf gone w) (IsDueAs w v) rows due.1 (all-right (IsDueAs w v) before rows same)) in
        let then = go v before rows (due_goes w before row rows k whole (due.0 e)) refl dues in
        let as_before = all-append (IsDueAs w v) before (left rows) (all-left (IsDueAs w v) before rows same) (all-filter (IsDueAs w v) (remains gone) rows (all-right (IsDueAs w v) before rows same)) in
        let u = with_rows w (before ++ left rows) in
        record {
          formed = then.formed;
          same = all-weaker (λ x. IsDueAs w v x × IsDueAs v u x) (IsDueAs w u) (before ++ left rows) (λ x h. h.1 ∙ h.0) (all-both (IsDueAs w v) (IsDueAs v u) (before ++ left rows) as_before then.same);
        }
  ] refl

-- ---- the law

module _ (w : World) (gone : ℕ → ℕ → Bool) (k : HasParts w) (due : AreDue w gone) where
  abbrev now : VersionRow → Bool
  now row = is_due_at w row w.now

  abbrev rows : List VersionRow
  rows = filter (remains gone) w.versions

  abbrev then : VersionRow → Bool
  then row = is_due_at (with_rows w rows) row w.now

  pub rows_due : AllByRecursion (IsDueIf gone w) w.versions
  unfolding is_due
  rows_due = all-weaker (IsFound w.versions) (IsDueIf gone w) w.versions (λ row found named. grind (arith, nat_tests, found, due row.file row.number named)) (all_found w.versions (placed_of w k))

  pub stays_due : StaysDue w rows
  stays_due = go gone w [] w.versions k refl rows_due

  pub kept_stay : filter (λ row. not (then row)) rows ≡ filter (λ row. not (now row)) w.versions
  kept_stay =
      filter-same_all (λ row. not (then row)) (λ row. not (now row)) rows (all-weaker (IsDueAs w (with_rows w rows)) (λ row. not (then row) ≡ not (now row)) rows (λ row same. ap not same) stays_due.same)
      ∙ filter-both (λ row. not (now row)) (remains gone) w.versions
      ∙ filter-same_all (λ row. remains gone row && not (now row)) (λ row. not (now row)) w.versions (all-weaker (IsDueIf gone w) (λ row. (remains gone row && not (now row)) ≡ not (now row)) w.versions (λ row named. grind (arith, nat_tests, named)) rows_due)

pub any_due_leave : (w : World) (gone : ℕ → ℕ → Bool) → HasParts w → AreDue w gone → LeavesOthersDue w gone (without_versions gone w)
any_due_leave w gone k due = record {
  well_formed = well_formed (with_rows w (rows w gone k due)) (stays_due w gone k due).formed;
  due = filter-same_all (then w gone k due) (now w gone k due) (rows w gone k due) (stays_due w gone k due).same ∙ filter-swap (now w gone k due) (remains gone) w.versions;
  kept = kept_stay w gone k due;
}
