-- What holds of the first so many elements, and of the one after them.
use Rattle.ele_lists.proofs.Basics.{AllByRecursion, Bool, IfSome, List, Some, [], ap, arith, drop, false, find, get_or, length, list_any, refl, slice_get, suc, sym, take, true, zero, ℕ, ◌++◌, ◌+◌, ◌<◌, ◌∙◌, ◌∷◌, ◌≡◌, ◌≤◌}
use Rattle.std.proofs.lemmas.List.{drop_more, take-append-drop}

module _ {X : Type 0} where
  -- the elements before a place, the one at it, and those after
  pub cut-at : (xs : List X) (place : ℕ) (x d : X) → place < length xs → get_or xs place d ≡ x → xs ≡ take place xs ++ x ∷ drop (place + 1) xs
  cut-at xs place x d within is =
      sym (take-append-drop place xs) ∙ ap (λ (ys : List X). take place xs ++ ys) (drop_more xs place d within ∙ ap (λ (y : X). y ∷ drop (place + 1) xs) is)

  -- what holds of all holds of the one at a place
  pub all-at : (P : X → Type 0) (xs : List X) (place : ℕ) (x : X) → slice_get xs place ≡ Some x → AllByRecursion P xs → P x
  all-at P [] place x is all = absurd cc
  all-at P (y ∷ ys) zero x is all = let same : y ≡ x = cc in rw (← same) all.0
  all-at P (y ∷ ys) (suc place) x is all = all-at P ys place x is all.1

  -- with one more
  pub all-one_more : (P : X → Type 0) (xs : List X) (place : ℕ) → AllByRecursion P (take place xs) → IfSome (slice_get xs place) P → AllByRecursion P (take (suc place) xs)
  all-one_more P [] place all is = tt
  all-one_more P (x ∷ xs) zero all is = (is, tt)
  all-one_more P (x ∷ xs) (suc place) all is = (all.0, all-one_more P xs place all.1 is)

  -- the first that passes, if none before it does
  pub find-first_at : (p : X → Bool) (xs : List X) (place : ℕ) (x : X) → AllByRecursion (λ y. p y ≡ false) (take place xs) → slice_get xs place ≡ Some x → p x ≡ true → find p xs ≡ Some x
  find-first_at p [] place x none is passes = absurd cc
  find-first_at p (y ∷ ys) zero x none is passes = let same : y ≡ x = cc in rw (same, passes) refl
  find-first_at p (y ∷ ys) (suc place) x none is passes = rw none.0 (find-first_at p ys place x none.1 is passes)

  -- and none, if the first so many are all
  pub any-none_taken : (p : X → Bool) (xs : List X) (place : ℕ) → length xs ≤ place → AllByRecursion (λ x. p x ≡ false) (take place xs) → list_any p xs ≡ false
  any-none_taken p [] place past all = refl
  any-none_taken p (x ∷ xs) zero past all = absurd (omega arith)
  any-none_taken p (x ∷ xs) (suc place) past all = rw all.0 (any-none_taken p xs place (omega arith) all.1)
