-- The first element that passes by its place, and what a write, a removal, an insertion or a read there is (`first_places`).
use Rattle.ele_lists.proofs.Basics.{Bool, List, None, Some, [], arith, false, find, get_or, insert, insert_before, insert_end, length, list_any, nat_tests, position, refl, remove, remove_first, set, suc, unwrap_or, update_first, zero, ℕ, ◌++◌, ◌-◌, ◌∷◌, ◌≡◌, ◌≤◌}

module _ {X : Type 0} (p : X → Bool) where
  -- if the first one that passes is known
  pub update_first-position : (f : X → X) (xs : List X) (i : ℕ) (d : X) → position p xs ≡ Some i → update_first p f xs ≡ set xs i (f (get_or xs i d))
  update_first-position f [] i d h = grind (arith, nat_tests)
  update_first-position f (x ∷ xs) i d h = grind (arith, nat_tests, update_first-position f xs (i - 1) d)

  pub remove_at : (xs : List X) (i : ℕ) → position p xs ≡ Some i → remove_first p xs ≡ remove xs i
  remove_at [] i h = grind (arith, nat_tests)
  remove_at (x ∷ xs) zero h = grind (arith, nat_tests)
  remove_at (x ∷ xs) (suc i) h = grind (arith, nat_tests, remove_at xs i)

  pub remove_first-position : (xs : List X) (i : ℕ) (d : X) → position p xs ≡ Some i → remove_first p xs ≡ remove xs i
  remove_first-position xs i d h = remove_at xs i h

  insert_at : (y : X) (xs : List X) (i : ℕ) → position p xs ≡ Some i → insert_before p y xs ≡ insert xs i y
  insert_at y [] i h = grind (arith, nat_tests)
  insert_at y (x ∷ xs) zero h = grind (arith, nat_tests)
  insert_at y (x ∷ xs) (suc i) h = grind (arith, nat_tests, insert_at y xs i)

  pub find-position : (xs : List X) (i : ℕ) (d : X) → position p xs ≡ Some i → find p xs ≡ Some (get_or xs i d)
  find-position [] i d h = grind (arith, nat_tests)
  find-position (x ∷ xs) i d h = grind (arith, nat_tests, find-position xs (i - 1) d)

  -- if none passes
  pub list_any-position : (xs : List X) → position p xs ≡ None → list_any p xs ≡ false
  list_any-position [] h = refl
  list_any-position (x ∷ xs) h = grind (arith, nat_tests, list_any-position xs)

  pub update_first-none : (f : X → X) (xs : List X) → position p xs ≡ None → update_first p f xs ≡ xs
  update_first-none f [] h = refl
  update_first-none f (x ∷ xs) h = grind (arith, nat_tests, update_first-none f xs)

  pub remove_first-none : (xs : List X) → position p xs ≡ None → remove_first p xs ≡ xs
  remove_first-none [] h = refl
  remove_first-none (x ∷ xs) h = grind (arith, nat_tests, remove_first-none xs)

  insert_none : (y : X) (xs : List X) → position p xs ≡ None → insert_before p y xs ≡ xs ++ y ∷ []
  insert_none y [] h = refl
  insert_none y (x ∷ xs) h = grind (arith, nat_tests, insert_none y xs)

  pub find-none : (xs : List X) → position p xs ≡ None → find p xs ≡ None
  find-none [] h = refl
  find-none (x ∷ xs) h = grind (arith, nat_tests, find-none xs)

  -- a write at the first place that passes, of what was read there with f done to it
  pub set-first : (f : X → X) (xs : List X) (i : ℕ) (x y : X) → position p xs ≡ Some i → x ≡ get_or xs i x → y ≡ f x → set xs i y ≡ update_first p f xs
  set-first f xs i x y found is made = grind (arith, update_first-position f xs i x)

  -- an insertion at the first place that passes, or at the end if none does
  pub insert_before-place : (y : X) (xs : List X) → insert_before p y xs ≡ insert xs (unwrap_or (position p xs) (length xs)) y
  insert_before-place y xs = grind (arith, insert_none y xs, insert_at y xs, insert_end xs y)

  pub place-le : (xs : List X) → unwrap_or (position p xs) (length xs) ≤ length xs
  place-le xs = grind (arith, nat_tests)

-- what a write, a removal, an insertion or a read at the first place that passes is
pub ruleset first_places = (update_first-position, remove_first-position, insert_before-place, place-le, find-position, update_first-none, remove_first-none, find-none)
