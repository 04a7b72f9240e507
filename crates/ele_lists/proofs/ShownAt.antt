-- What is done at the place that `position` gives, as a view of the list shows it.
use Rattle.ele_lists.proofs.Basics.{Bool, List, None, Rises, Some, [], arith, false, find, get_or, insert, insert_before, length, list_any, map, nat_tests, position, refl, remove, remove_first, set, suc, sym, true, unwrap_or, update_first, zero, ℕ, ◌-◌, ◌<◌, ◌∙◌, ◌∷◌, ◌≡◌}
use Rattle.ele_lists.proofs.Alls.{map-later}
use Rattle.ele_lists.proofs.Places.{find-position, find-none, remove_at, insert_before-place, list_any-position}
use Rattle.ele_lists.proofs.Shown.{find-map, any-map, remove_first-map, insert_before-map}

-- the element of that place goes; the place is one of the list
pub remove-place : {X : Type 0} (q : X → Bool) (xs : List X) (i : ℕ) → position q xs ≡ Some i → remove xs i ≡ remove_first q xs
remove-place q xs i at = sym (remove_at q xs i at)

module _ {X Y : Type 0} (g : X → Y) (p : Y → Bool) where
  -- if an element passes
  pub find-shown : (xs : List X) (i : ℕ) (at : position (λ x. p (g x)) xs ≡ Some i) (x : X) → x ≡ get_or xs i x → find p (map g xs) ≡ Some (g x)
  find-shown xs i at x is = grind (arith, find-map g p xs, find-position (λ x. p (g x)) xs i x)

  pub set-shown : (xs : List X) (i : ℕ) (at : position (λ x. p (g x)) xs ≡ Some i) (f : Y → Y) (x y : X) → x ≡ get_or xs i x → g y ≡ f (g x) → map g (set xs i y) ≡ update_first p f (map g xs)
  set-shown [] i at f x y is made = grind (arith, nat_tests)
  set-shown (z ∷ xs) zero at f x y is made = grind (arith, nat_tests)
  set-shown (z ∷ xs) (suc i) at f x y is made = grind (arith, nat_tests, set-shown xs i)

  pub remove-shown : (xs : List X) (i : ℕ) (at : position (λ x. p (g x)) xs ≡ Some i) → map g (remove xs i) ≡ remove_first p (map g xs)
  remove-shown xs i at = grind (arith, remove-place (λ x. p (g x)) xs i, remove_first-map g p (λ x. p (g x)) (λ x. refl) xs)

  pub any-shown : (xs : List X) (i : ℕ) (at : position (λ x. p (g x)) xs ≡ Some i) → list_any p (map g xs) ≡ true
  any-shown [] i at = grind (arith, nat_tests)
  any-shown (x ∷ xs) i at = grind (arith, nat_tests, any-shown xs (i - 1))

  -- or none does
  pub any-missing : (xs : List X) (none : position (λ x. p (g x)) xs ≡ None) → list_any p (map g xs) ≡ false
  any-missing xs none = any-map g p xs ∙ list_any-position (λ x. p (g x)) xs none

  pub find-missing : (xs : List X) (none : position (λ x. p (g x)) xs ≡ None) → find p (map g xs) ≡ None
  find-missing xs none = grind (arith, find-map g p xs, find-none (λ x. p (g x)) xs)

  -- an element is inserted before the first that passes, or at the end
  pub insert-shown : (xs : List X) (i : ℕ) (y : X) → unwrap_or (position (λ x. p (g x)) xs) (length xs) ≡ i → map g (insert xs i y) ≡ insert_before p (g y) (map g xs)
  insert-shown xs i y is = grind (arith, insert_before-place (λ x. p (g x)) y xs, insert_before-map g p (λ x. p (g x)) (λ x. refl) y xs)

-- keys that rise as a view shows them
pub rises-map : {X Y : Type 0} (g : X → Y) (key : Y → ℕ) (xs : List X) → Rises key (map g xs) → Rises (λ x. key (g x)) xs
rises-map g key xs rises = map-later g (λ x y. key x < key y) xs rises
