-- The element that is found, and a change of it.
use Rattle.ele_lists.proofs.Basics.{AllByRecursion, AllLater, Bool, List, None, Some, [], arith, false, find, insert_before, list_any, refl, true, update_first, ◌∷◌, ◌≡◌}
use Rattle.ele_lists.proofs.Edits.{all-weaker, all-update_first, not_found}

-- what tests that agree find
pub find-same : {X : Type 0} (p q : X → Bool) (xs : List X) → ((x : X) → p x ≡ q x) → find p xs ≡ find q xs
find-same p q [] same = refl
find-same p q (x ∷ xs) same = rw (same x, find-same p q xs same) refl

pub find-same_all : {X : Type 0} (p q : X → Bool) (xs : List X) → AllByRecursion (λ x. p x ≡ q x) xs → find p xs ≡ find q xs
find-same_all p q [] same = refl
find-same_all p q (x ∷ xs) same = grind (arith, find-same_all p q xs)

-- a test t beside the test p by which it is found
module _ {X : Type 0} (p t : X → Bool) where
  pub any-found : (xs : List X) (x : X) → find p xs ≡ Some x → t x ≡ true → list_any t xs ≡ true
  any-found [] x h passes = absurd cc
  any-found (y ∷ xs) x h passes = grind (arith, any-found xs x)

  -- the test sees no change
  pub list_any-update_found : (f : X → X) (xs : List X) → ((x : X) → find p xs ≡ Some x → t (f x) ≡ t x) → list_any t (update_first p f xs) ≡ list_any t xs
  list_any-update_found f [] same = refl
  list_any-update_found f (x ∷ xs) same = grind (arith, list_any-update_found f xs)

  -- what is changed fails the test, so whatever passes was there before
  pub list_any-update_fails : (f : X → X) (xs : List X) → ((x : X) → t (f x) ≡ false) → list_any t (update_first p f xs) ≡ true → list_any t xs ≡ true
  list_any-update_fails f [] fails h = h
  list_any-update_fails f (x ∷ xs) fails h = grind (arith, list_any-update_fails f xs)

  -- what passes p fails t, before the change and after it
  pub find-update_other : (f : X → X) (xs : List X) → ((x : X) → p x ≡ true → (t x ≡ false) × (t (f x) ≡ false)) → find t (update_first p f xs) ≡ find t xs
  find-update_other f [] apart = refl
  find-update_other f (x ∷ xs) apart = grind (arith, find-update_other f xs)

  -- an element whose test no other passes is found at its place
  pub find-inserted : (y : X) (xs : List X) → t y ≡ true → AllByRecursion (λ x. t x ≡ false) xs → find t (insert_before p y xs) ≡ Some y
  find-inserted y [] own none = rw own refl
  find-inserted y (x ∷ xs) own none = grind (arith, find-inserted y xs)

module _ {X : Type 0} (p : X → Bool) where
  -- none passes once the only one that did is changed
  pub find-update_none : (f : X → X) (xs : List X) → ((x : X) → p x ≡ true → p (f x) ≡ false) → AllLater (λ x y. p x ≡ true → p y ≡ false) xs → find p (update_first p f xs) ≡ None
  find-update_none f [] fails only = refl
  find-update_none f (x ∷ xs) fails only = grind (arith, not_found p xs, all-weaker (λ y. p x ≡ true → p y ≡ false) (λ y. p y ≡ false) xs, find-update_none f xs)

  -- between elements, if the first of two passes before its change
  pub later-update_found : (R : X → X → Type 0) (f : X → X) (xs : List X) → ((x y : X) → p x ≡ true → R x y → R (f x) y) → ((x y : X) → R x y → R x (f y)) → AllLater R xs → AllLater R (update_first p f xs)
  later-update_found R f [] first second later = tt
  later-update_found R f (x ∷ xs) first second later = grind (arith, all-weaker (R x) (R (f x)) xs, all-update_first p (R x) (R x) f xs, later-update_found R f xs)
