-- One row more, and the row that shows that a part fails.
use Rattle.ele_well_formed.proofs.Words.{AllByRecursion, AllLater, Bool, IsMisplaced, List, Some, [], all-at, all-push, all-weaker, arith, false, false≢true, get_or, length, later-around, later-push, list_any, list_any-append, refl, slice_get, slice_get_read, suc, sym, take, take_more, true, zero, ℕ, ◌+◌, ◌++◌, ◌<◌, ◌∷◌, ◌≡◌, ◌||◌}

-- a row is at a place of the list
pub record IsAt {X : Type 0} (xs : List X) (at : ℕ) (x : X) : Type 0 where
  pub within : at < length xs
  pub is : x ≡ get_or xs at x

module _ {X : Type 0} (xs : List X) (at : ℕ) (x : X) (here : IsAt xs at x) where
  pub taken : take (at + 1) xs ≡ take at xs ++ x ∷ []
  taken = rw (take_more xs at x here.within, ← here.is) refl

  pub there : slice_get xs at ≡ Some x
  there = slice_get_read xs (length xs) at x refl here.within here.is

  -- it stands as it should to those before it
  pub later_more : (R : X → X → Type 0) → AllLater R (take at xs) → AllByRecursion (λ z. R z x) (take at xs) → AllLater R (take (at + 1) xs)
  later_more R later all = rw taken (later-push R (take at xs) x later all)

-- it stands as it should to all before it, if it does to the one right before it
module _ {X : Type 0} (R : X → X → Type 0) (xs : List X) (at : ℕ) (y x : X) (before : IsAt xs at y) (here : IsAt xs (at + 1) x) where
  pub later_next : ((z : X) → R z y → R z x) → R y x → AllLater R (take (at + 1) xs) → AllLater R (take (at + 1 + 1) xs)
  later_next on next later =
      let rest = later-around R (take at xs) y [] (rw (taken xs at y before) at later) in
      later_more xs (at + 1) x here R later (rw (taken xs at y before) (all-push (λ z. R z x) (take at xs) y (all-weaker (λ z. R z y) (λ z. R z x) (take at xs) on rest.0) next))

-- ---- a place before

-- an earlier row that passes
pub record IsBefore {X : Type 0} (p : X → Bool) (xs : List X) (at : ℕ) : Type 0 where
  pub place : ℕ
  pub before : place < at
  pub row : X
  pub found : slice_get xs place ≡ Some row
  pub passes : p row ≡ true

pub any_before : {X : Type 0} (p : X → Bool) (xs : List X) (at : ℕ) → list_any p (take at xs) ≡ true → IsBefore p xs at
any_before p [] zero any = absurd cc
any_before p [] (suc at) any = absurd cc
any_before p (x ∷ xs) zero any = absurd cc
any_before p (x ∷ xs) (suc at) any = elim (p x) as (λ b. p x ≡ b → IsBefore p (x ∷ xs) (suc at)) [
  | true ↦ λ e. record { place = 0; before = omega arith; row = x; found = refl; passes = e }
  | false ↦ λ e. let rest = any_before p xs at (rw e at any) in record { place = suc rest.place; before = omega (arith, rest.before); row = rest.row; found = rest.found; passes = rest.passes }
] refl

-- ---- rows that are apart by a test

later-slice_get : {X : Type 0} (R : X → X → Type 0) (xs : List X) (i j : ℕ) (x y : X) → i < j → slice_get xs i ≡ Some x → slice_get xs j ≡ Some y → AllLater R xs → R x y
later-slice_get R [] i j x y lt one other later = absurd cc
later-slice_get R (z ∷ zs) zero zero x y lt one other later = absurd (omega arith)
later-slice_get R (z ∷ zs) (suc i) zero x y lt one other later = absurd (omega arith)
later-slice_get R (z ∷ zs) zero (suc j) x y lt one other later = let is : z ≡ x = cc in rw (← is) (all-at (R z) zs j y other later.0)
later-slice_get R (z ∷ zs) (suc i) (suc j) x y lt one other later = later-slice_get R zs i j x y (omega (arith, lt)) one other later.1

pub misplaced_not : {X : Type 0} (R : X → X → Type 0) (xs : List X) (at : ℕ) → IsMisplaced R xs at → AllLater R xs → ⊥
misplaced_not R xs at shown later = shown.wrong (later-slice_get R xs shown.place at shown.earlier shown.row shown.before shown.found shown.there later)

module _ {X : Type 0} (p : X → Bool) where
  pub none_passes : (xs : List X) → list_any p xs ≡ false → AllByRecursion (λ x. p x ≡ false) xs
  none_passes [] none = tt
  none_passes (x ∷ xs) none = grind (arith, none_passes xs)

  pub any_more : (xs : List X) (at : ℕ) (x : X) → IsAt xs at x → list_any p (take (at + 1) xs) ≡ (list_any p (take at xs) || p x)
  any_more xs at x here = rw (taken xs at x here) (grind (arith, list_any-append))

module _ {X : Type 0} (same : X → X → Bool) (xs : List X) (at : ℕ) (x : X) (here : IsAt xs at x) where
  abbrev Apart : X → X → Type 0
  Apart y z = same y z ≡ false

  pub apart_more : list_any (λ z. same z x) (take at xs) ≡ false → AllLater Apart (take at xs) → AllLater Apart (take (at + 1) xs)
  apart_more none later = later_more xs at x here Apart later (none_passes (λ z. same z x) (take at xs) none)

  pub apart_wrong : list_any (λ z. same z x) (take at xs) ≡ true → IsMisplaced Apart xs at
  apart_wrong any = let first = any_before (λ z. same z x) xs at any in
      record { place = first.place; before = first.before; earlier = first.row; row = x; found = first.found; there = there xs at x here; wrong = λ apart. false≢true (sym (rw first.passes at apart)) }

pub all_taken : {X : Type 0} (P : X → Type 0) (xs : List X) (n : ℕ) → AllByRecursion P xs → AllByRecursion P (take n xs)
all_taken P [] zero all = tt
all_taken P [] (suc n) all = tt
all_taken P (x ∷ xs) zero all = tt
all_taken P (x ∷ xs) (suc n) all = (all.0, all_taken P xs n all.1)
