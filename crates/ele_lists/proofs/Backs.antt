-- The element that has so many after it: in lists after one another, and among rows of rising keys, where so many have a
-- greater one.
use Rattle.ele_lists.proofs.Basics.{AllByRecursion, AllLater, Bool, List, None, Rises, Some, [], arith, cond, count_by, count_by-le-length, eqb, false, filter, find, is_behind, last_passing, leb, length, length-append, length-map, length-reverse, map, nat_tests, option_map, option_map_or, refl, reverse, reverse-append, slice_get, slice_get_past, suc, true, zero, ℕ, ◌++◌, ◌+◌, ◌-◌, ◌<◌, ◌∷◌, ◌≡◌, ◌≤◌}
use Rattle.ele_lists.proofs.Edits.{all-weaker}
use Rattle.ele_lists.proofs.Found.{find-same_all}
use Rattle.ele_lists.proofs.Sums.{count-all, count-cons}

module _ {X : Type 0} where
  get-push : (xs : List X) (x : X) (n : ℕ) → slice_get (xs ++ x ∷ []) n ≡ cond (eqb (length xs) n) (Some x) (slice_get xs n)
  get-push [] x zero = refl
  get-push [] x (suc n) = grind (arith, nat_tests)
  get-push (y ∷ xs) x zero = grind (arith, nat_tests)
  get-push (y ∷ xs) x (suc n) = grind (arith, nat_tests, get-push xs x n)

  -- it is the first one if so many are after that one
  pub back-cons : (x : X) (xs : List X) (n : ℕ) → slice_get (reverse (x ∷ xs)) n ≡ cond (eqb (length xs) n) (Some x) (slice_get (reverse xs) n)
  back-cons x xs n = grind (arith, reverse-append (x ∷ []) xs, get-push (reverse xs) x n, length-reverse {A = X} xs)

  pub back-past : (xs : List X) (n : ℕ) → length xs ≤ n → slice_get (reverse xs) n ≡ None
  back-past xs n past = slice_get_past (reverse xs) n (grind (arith, length-reverse {A = X} xs))

  -- it is in the second list, or else in the first
  pub back-near : (xs ys : List X) (n : ℕ) → n < length ys → slice_get (reverse (xs ++ ys)) n ≡ slice_get ys (length ys - 1 - n)
  back-near [] [] n near = absurd (omega arith)
  back-near [] (y ∷ ys) n near = grind (arith, nat_tests, back-cons y ys n, back-near [] ys n)
  back-near (x ∷ xs) ys n near = grind (arith, nat_tests, back-cons x (xs ++ ys) n, back-near xs ys n, length-append {A = X} xs ys)

  pub back-far : (xs ys : List X) (n : ℕ) → length ys ≤ n → slice_get (reverse (xs ++ ys)) n ≡ slice_get (reverse xs) (n - length ys)
  back-far [] ys n far = grind (arith, back-past ys n)
  back-far (x ∷ xs) ys n far = grind (arith, nat_tests, back-cons x (xs ++ ys) n, back-cons x xs (n - length ys), back-far xs ys n far, length-append {A = X} xs ys)

-- in a view
pub back-map : {X Y : Type 0} (h : X → Y) (xs : List X) (n : ℕ) → slice_get (reverse (map h xs)) n ≡ option_map h (slice_get (reverse xs) n)
back-map h [] n = refl
back-map h (x ∷ xs) n = grind (arith, nat_tests, back-cons (h x) (map h xs) n, back-cons x xs n, length-map xs h, back-map h xs n)

none-back : {X : Type 0} (xs : List X) → slice_get (reverse xs) 0 ≡ None → length xs ≡ 0
none-back [] none = refl
none-back (x ∷ xs) none = absurd (grind (arith, nat_tests, back-cons x xs 0, none-back xs))

-- the last that passes has none after it that does
pub last-back : {X : Type 0} (p : X → Bool) (xs : List X) → last_passing p xs ≡ slice_get (reverse (filter p xs)) 0
last-back p [] = refl
last-back p (x ∷ xs) = grind (arith, nat_tests, last-back p xs, back-cons x (filter p xs) 0, back-past (filter p xs) 0, none-back (filter p xs))

module _ {X : Type 0} (p : X → Bool) where
  -- each element after one that passes does too: so many do if the one that has one fewer after it does
  pub enough-back : (xs : List X) (n : ℕ) → AllLater (λ x y. p x ≡ true → p y ≡ true) xs → leb (suc n) (count_by p xs) ≡ option_map_or p (slice_get (reverse xs) n) false
  enough-back [] n up = grind (arith, nat_tests)
  enough-back (x ∷ xs) n up = grind (arith, nat_tests, count-cons p x xs, back-cons x xs n, back-past xs n, count_by-le-length p xs, count-all p xs, all-weaker (λ y. p x ≡ true → p y ≡ true) (λ y. p y ≡ true) xs, enough-back xs n up.1)

-- rows of rising keys
module _ {X : Type 0} (key : X → ℕ) where
  -- how many have a greater one
  abbrev pub greater : List X → ℕ → ℕ
  greater xs this = count_by (is_behind key this) xs

  -- the row that so many have a greater one than
  pub found-back : (xs : List X) (n : ℕ) → Rises key xs → find (λ x. eqb (greater xs (key x)) n) xs ≡ slice_get (reverse xs) n
  found-back [] n rises = refl
  found-back (x ∷ xs) n rises =
      let here : greater (x ∷ xs) (key x) ≡ length xs = grind (arith, nat_tests, count-cons (is_behind key (key x)) x xs, count-all (is_behind key (key x)) xs, all-weaker (λ y. key x < key y) (λ y. is_behind key (key x) y ≡ true) xs) in
      let there : AllByRecursion (λ y. eqb (greater (x ∷ xs) (key y)) n ≡ eqb (greater xs (key y)) n) xs = all-weaker (λ y. key x < key y) (λ y. eqb (greater (x ∷ xs) (key y)) n ≡ eqb (greater xs (key y)) n) xs (λ y lt. grind (arith, nat_tests, lt, count-cons (is_behind key (key y)) x xs)) rises.0 in
      grind (arith, nat_tests, here, back-cons x xs n, find-same_all (λ y. eqb (greater (x ∷ xs) (key y)) n) (λ y. eqb (greater xs (key y)) n) xs there, found-back xs n rises.1)
