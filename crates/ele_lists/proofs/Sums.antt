-- Sums and counts over lists, and what a change at one place makes of them.
use Rattle.ele_lists.proofs.Basics.{AllByRecursion, Bool, List, Some, [], arith, cond, count_by, false, filter, find, flat_map, insert_before, length, list_any, map, nat_lt, nat_tests, not, option_map_or, refl, remove_first, sum_by, sum_by-append, sum_by-cons, true, update_first, ℕ, ◌&&◌, ◌++◌, ◌+◌, ◌∷◌, ◌≡◌, ◌≤◌}

module _ {X : Type 0} (f : X → ℕ) where
  -- the changes
  pub sum_by-update_first : (p : X → Bool) (g : X → X) (xs : List X) (x : X) → find p xs ≡ Some x → sum_by f (update_first p g xs) + f x ≡ sum_by f xs + f (g x)
  sum_by-update_first p g [] x found = absurd cc
  sum_by-update_first p g (y ∷ xs) x found = grind (arith, sum_by-cons f, sum_by-update_first p g xs x)

  pub sum_by-remove_first : (p : X → Bool) (xs : List X) (x : X) → find p xs ≡ Some x → sum_by f (remove_first p xs) + f x ≡ sum_by f xs
  sum_by-remove_first p [] x found = absurd cc
  sum_by-remove_first p (y ∷ xs) x found = grind (arith, sum_by-cons f, sum_by-remove_first p xs x)

  pub sum_by-insert_before : (p : X → Bool) (y : X) (xs : List X) → sum_by f (insert_before p y xs) ≡ f y + sum_by f xs
  sum_by-insert_before p y [] = sum_by-cons f y []
  sum_by-insert_before p y (x ∷ xs) = grind (arith, sum_by-cons f y (x ∷ xs), sum_by-cons f x (insert_before p y xs), sum_by-cons f x xs, sum_by-insert_before p y xs)

  -- an update that no summand sees
  pub sum_by-update_same : (p : X → Bool) (g : X → X) (xs : List X) → ((x : X) → f (g x) ≡ f x) → sum_by f (update_first p g xs) ≡ sum_by f xs
  sum_by-update_same p g [] same = refl
  sum_by-update_same p g (x ∷ xs) same = grind (arith, sum_by-cons f, sum_by-update_same p g xs)

  -- one element between others
  pub sum_by-around : (before : List X) (x : X) (behind : List X) → sum_by f (before ++ x ∷ behind) ≡ sum_by f (before ++ behind) + f x
  sum_by-around before x behind = omega (arith, sum_by-append f before (x ∷ behind), sum_by-append f before behind, sum_by-cons f x behind)

  -- no summand is more than the sum
  pub sum_by-found : (p : X → Bool) (xs : List X) (x : X) → find p xs ≡ Some x → f x ≤ sum_by f xs
  sum_by-found p xs x found = omega (arith, sum_by-remove_first p xs x found)

  -- of a view, of lists after one another, of what passes
  pub sum_by-map : {Y : Type 0} (h : Y → X) (ys : List Y) → sum_by f (map h ys) ≡ sum_by (λ y. f (h y)) ys
  sum_by-map h [] = refl
  sum_by-map h (y ∷ ys) = omega (arith, sum_by-cons f (h y) (map h ys), sum_by-cons (λ y. f (h y)) y ys, sum_by-map h ys)

  pub sum_by-flat_map : {Y : Type 0} (h : Y → List X) (ys : List Y) → sum_by f (flat_map h ys) ≡ sum_by (λ y. sum_by f (h y)) ys
  sum_by-flat_map h [] = refl
  sum_by-flat_map h (y ∷ ys) = omega (arith, sum_by-append f (h y) (flat_map h ys), sum_by-cons (λ y. sum_by f (h y)) y ys, sum_by-flat_map h ys)

module _ {X : Type 0} (f g : X → ℕ) where
  pub sum_by-same : (xs : List X) → AllByRecursion (λ x. f x ≡ g x) xs → sum_by f xs ≡ sum_by g xs
  sum_by-same [] same = refl
  sum_by-same (x ∷ xs) same = omega (arith, sum_by-cons f x xs, sum_by-cons g x xs, same.0, sum_by-same xs same.1)

module _ {X : Type 0} (p : X → Bool) where
  abbrev one : X → ℕ
  one x = cond (p x) 1 0

  pub count-cons : (x : X) (xs : List X) → count_by p (x ∷ xs) ≡ one x + count_by p xs
  count-cons x xs = sum_by-cons one x xs

  pub count-all : (xs : List X) → AllByRecursion (λ x. p x ≡ true) xs → count_by p xs ≡ length xs
  count-all [] all = refl
  count-all (x ∷ xs) all = grind (arith, count-cons x xs, count-all xs)

  -- of what passes another test
  pub count-filter_both : (q : X → Bool) (xs : List X) → count_by p (filter q xs) ≡ count_by (λ x. q x && p x) xs
  count-filter_both q [] = refl
  count-filter_both q (x ∷ xs) = grind (arith, nat_tests, count-cons, sum_by-cons (λ x. cond (q x && p x) 1 0) x xs, count-filter_both q xs)

  -- whether one passes is whether the count is more than none
  pub any-count : (xs : List X) → list_any p xs ≡ nat_lt 0 (count_by p xs)
  any-count [] = refl
  any-count (x ∷ xs) = grind (arith, nat_tests, sum_by-cons one x xs, any-count xs)

  -- one that passed and is changed so that it doesn't makes the count one less
  pub count-update_first : (t : X → Bool) (g : X → X) (xs : List X) (x : X) → find t xs ≡ Some x → p x ≡ true → p (g x) ≡ false → count_by p (update_first t g xs) + 1 ≡ count_by p xs
  count-update_first t g xs x found was is = grind (arith, sum_by-update_first one t g xs x)

-- what passes and what doesn't
pub length-split : {X : Type 0} (t : X → Bool) (xs : List X) → length xs ≡ length (filter t xs) + length (filter (λ x. not (t x)) xs)
length-split t [] = refl
length-split t (x ∷ xs) = grind (arith, length-split t xs)

-- one fewer passes if the removed one does
pub length-filter_removed : {X : Type 0} (t p : X → Bool) (xs : List X) → length (filter t (remove_first p xs)) + option_map_or (λ x. cond (t x) 1 0) (find p xs) 0 ≡ length (filter t xs)
length-filter_removed t p [] = omega arith
length-filter_removed t p (x ∷ xs) = grind (arith, length-filter_removed t p xs)
