-- A removal of the first version of the scan changes no other version's moment: from the first's moment on whatever is due
-- stays so without it, and before that moment nothing is due, neither with it nor without.
use Rattle.ele_model.proofs.Basics.{◌≡◌, ℕ, ◌≤◌, Bool, true, false, List, ◌∷◌, ◌++◌, Option, Some, None, IfSome, refl, ap, subst, ◌∙◌, option_map_or, arith, find, nat_le}
use Rattle.ele_model.proofs.Basics.{AllByRecursion, nat_tests, all-weaker, all-both, all-found, not_found, all-append, all-around, find-cut, find-without}
use Rattle.ele_model.proofs.Words.{Key, last_moment, VersionRow, ripe_at, file_view, TakesOneKey, first_due, Take, after_change, HasParts, World, is_version, clean_step}
use Rattle.ele_model.specs.Due.{is_due_at, ripe_of}
use Rattle.ele_model.specs.Scan.{due_key}
use Rattle.ele_model.proofs.DropViews.{ripe_at_dropped}
use Rattle.ele_model.proofs.DueRows.{IsFirst, first_is_due, first_of_rows}
use Rattle.ele_model.proofs.RemovalOrder.{rest, IsBeside, stays, no_more, sides, taken}
use Rattle.ele_model.proofs.RipeAt.{ripe_at_is, ripe_same}
use Rattle.ele_model.proofs.RipeMoments.{ripens}
use Rattle.ele_model.proofs.Views.{now_of, placed_of}

-- a version that is ripe isn't so before that moment
abbrev IsLater : World → ℕ → VersionRow → Type 0
IsLater w first row = IfSome (ripe_of w row) (λ m. first ≤ m)

all_later : (w : World) (k : HasParts w) (key : Key) → first_due w ≡ Some key → key.ripe ≤ w.now → AllByRecursion (IsLater w key.ripe) w.versions
unfolding due_key
all_later w k key first come = all-weaker (λ row. IfSome (due_key w row) (IsFirst (first_due w))) (IsLater w key.ripe) w.versions one (first_of_rows w) where
  one : (row : VersionRow) → IfSome (due_key w row) (IsFirst (first_due w)) → IsLater w key.ripe row
  one row least = grind (arith, nat_tests, first, now_of w k, ripens w k row w.now)

-- ---- the other versions

settled : (now then : Bool) (ripe : Option ℕ) (first at : ℕ) → (nat_le first at ≡ true → then ≡ now) → (then ≡ true → now ≡ true) → now ≡ option_map_or (λ m. nat_le m at) ripe false → IfSome ripe (λ m. first ≤ m) → then ≡ now
settled now then ripe first at same fewer from late = grind (arith, nat_tests)

module _ (w : World) (before : List VersionRow) (row : VersionRow) (behind : List VersionRow) (k : HasParts w) (whole : w.versions ≡ before ++ row ∷ behind) (first : ℕ) (own : ripe_of w row ≡ Some first) (later : AllByRecursion (IsLater w first) w.versions) where
  abbrev without_row : World
  without_row = rest w before row behind k whole

  due_stays : (x : VersionRow) → IsBeside row x → IsLater w first x → (at : ℕ) → at ≤ last_moment → is_due_at without_row x at ≡ is_due_at w x at
  due_stays x side late at fits = settled _ _ (ripe_of w x) first at (λ come. stays w before row behind k whole at (ripens w k row at fits ∙ rw (own, come) refl) x side) (no_more w before row behind k whole at x side) (ripens w k x at fits) late

  stay : AllByRecursion (λ x. ripe_of without_row x ≡ ripe_of w x) (before ++ behind)
  unfolding ripe_of is_due_at
  stay =
      let told = all-around (IsLater w first) before row behind (subst (AllByRecursion (IsLater w first)) whole later) in
      all-weaker (λ x. IsBeside row x × IsLater w first x) (λ x. ripe_of without_row x ≡ ripe_of w x) (before ++ behind) (λ x h. ripe_same (file_view w x.file) (file_view without_row x.file) x refl refl (due_stays x h.0 h.1))
      (all-both (IsBeside row) (IsLater w first) (before ++ behind) (sides w before row behind k whole) (all-append (IsLater w first) before behind told.0 told.2))

  others : (file number : ℕ) → is_version file number row ≡ false → ripe_at without_row file number ≡ ripe_at w file number
  others file number apart = grind (arith, nat_tests, ripe_at_is without_row file number, ripe_at_is w file number, ap (find (is_version file number)) whole, find-without (is_version file number) before row behind apart, all-found (is_version file number) (λ x. ripe_of without_row x ≡ ripe_of w x) (before ++ behind), stay)

  gone : ripe_at without_row row.file row.number ≡ None
  gone = grind (arith, nat_tests, ripe_at_is without_row row.file row.number, not_found (is_version row.file row.number), all-weaker (IsBeside row), sides w before row behind k whole)

-- the version goes, whether its file then goes or not
pub take_keeps_keys : (w : World) (key : Key) → HasParts w → first_due w ≡ Some key → TakesOneKey w key (after_change w (Take key.file key.number))
take_keeps_keys w key k first =
    let due = first_is_due w key (placed_of w k) first in
    let at = find-cut (is_version key.file key.number) w.versions due.row due.found in
    let passes = at.passes in
    let come : key.ripe ≤ w.now = grind (arith, nat_tests, ripens w k due.row w.now (now_of w k), due.due, due.ripe) in
    let later = all_later w k key first come in
    rw (taken w key.file key.number due.row due.found) (record {
      was = grind (arith, ripe_at_is w key.file key.number, due.found, due.ripe);
      gone = grind (arith, nat_tests, gone w at.before due.row at.behind k at.whole key.ripe due.ripe later);
      others = λ file number apart. others w at.before due.row at.behind k at.whole key.ripe due.ripe later file number (grind (arith, nat_tests));
    })

pub clean_keeps_keys : (w : World) (key : Key) → HasParts w → first_due w ≡ Some key → TakesOneKey w key ((clean_step w).1)
clean_keeps_keys w key k first = grind (arith, first, take_keeps_keys w key k first, ripe_at_dropped (after_change w (Take key.file key.number)) key.file)
