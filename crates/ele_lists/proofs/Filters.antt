-- Filters: of all or none, of one another, beside finds and views, and beside a change that they drop or keep.
use Rattle.ele_lists.proofs.Basics.{AllByRecursion, Bool, List, Some, [], ap, arith, false, filter, find, insert_before, list_any, refl, remove_first, true, update_first, ◌&&◌, ◌∷◌, ◌≡◌}

module _ {X : Type 0} (p : X → Bool) where
  pub filter-all : (xs : List X) → AllByRecursion (λ x. p x ≡ true) xs → filter p xs ≡ xs
  filter-all [] all = refl
  filter-all (x ∷ xs) all = rw all.0 (ap (λ ys. x ∷ ys) (filter-all xs all.1))

  pub filter-none : (xs : List X) → AllByRecursion (λ x. p x ≡ false) xs → filter p xs ≡ []
  filter-none [] all = refl
  filter-none (x ∷ xs) all = rw all.0 (filter-none xs all.1)

module _ {X : Type 0} (p q : X → Bool) where
  pub filter-same_all : (xs : List X) → AllByRecursion (λ x. p x ≡ q x) xs → filter p xs ≡ filter q xs
  filter-same_all [] same = refl
  filter-same_all (x ∷ xs) same = rw (same.0, filter-same_all xs same.1) refl

  pub filter-same : (xs : List X) → ((x : X) → p x ≡ q x) → filter p xs ≡ filter q xs
  filter-same [] same = refl
  filter-same (x ∷ xs) same = rw (same x, filter-same xs same) refl

  pub filter-both : (xs : List X) → filter p (filter q xs) ≡ filter (λ x. q x && p x) xs
  filter-both [] = refl
  filter-both (x ∷ xs) = grind (arith, filter-both xs)

  pub find-filter_both : (xs : List X) → find p (filter q xs) ≡ find (λ x. q x && p x) xs
  find-filter_both [] = refl
  find-filter_both (x ∷ xs) = grind (arith, find-filter_both xs)

  -- all that one test finds passes the other
  pub find-filter : (xs : List X) → ((x : X) → p x ≡ true → q x ≡ true) → find p (filter q xs) ≡ find p xs
  find-filter [] within = refl
  find-filter (x ∷ xs) within = grind (arith, find-filter xs)

  pub list_any-filter : (xs : List X) → ((x : X) → q x ≡ false → p x ≡ false) → list_any p (filter q xs) ≡ list_any p xs
  list_any-filter [] within = refl
  list_any-filter (x ∷ xs) within = grind (arith, list_any-filter xs)

  -- what passes among some passes among all
  pub any-filtered : (xs : List X) → list_any p (filter q xs) ≡ true → list_any p xs ≡ true
  any-filtered [] h = h
  any-filtered (x ∷ xs) h = grind (arith, any-filtered xs)

pub filter-swap : {X : Type 0} (p q : X → Bool) (xs : List X) → filter p (filter q xs) ≡ filter q (filter p xs)
filter-swap p q [] = refl
filter-swap p q (x ∷ xs) = grind (arith, filter-swap p q xs)

-- a filter q beside a change at the first that passes p
module _ {X : Type 0} (q p : X → Bool) where
  -- which drops it, before the change and after
  pub filter-update_first : (f : X → X) (xs : List X) → ((x : X) → p x ≡ true → q x ≡ false) → ((x : X) → p x ≡ true → q (f x) ≡ false) → filter q (update_first p f xs) ≡ filter q xs
  filter-update_first f [] was is = refl
  filter-update_first f (x ∷ xs) was is = grind (arith, filter-update_first f xs)

  pub filter-remove_first : (xs : List X) → ((x : X) → find p xs ≡ Some x → q x ≡ false) → filter q (remove_first p xs) ≡ filter q xs
  filter-remove_first [] fails = refl
  filter-remove_first (x ∷ xs) fails = grind (arith, filter-remove_first xs)

  pub filter-insert_before : (y : X) (xs : List X) → q y ≡ false → filter q (insert_before p y xs) ≡ filter q xs
  filter-insert_before y [] fails = rw fails refl
  filter-insert_before y (x ∷ xs) fails = grind (arith, filter-insert_before y xs)
