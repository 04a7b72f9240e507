-- How many elements pass a test, beside how many pass another; and which elements are there.
use Rattle.ele_renewal.proofs.Words.{AllByRecursion, AllLater, Bool, List, [], all-split, arith, false, filter, length, list_any, nat_lt, nat_tests, refl, true, ℕ, ◌++◌, ◌<◌, ◌==◌, ◌∷◌, ◌≡◌, ◌≤◌}

module _ {X : Type 0} where
  pub filter-le : (p q : X → Bool) (xs : List X) → ((x : X) → p x ≡ true → q x ≡ true) → length (filter p xs) ≤ length (filter q xs)
  filter-le p q [] within = omega arith
  filter-le p q (x ∷ xs) within = grind (arith, within x, filter-le p q xs within)

  -- one is there that passes only the second
  pub filter-lt : (p q t : X → Bool) (xs : List X) → ((x : X) → p x ≡ true → q x ≡ true) → ((x : X) → t x ≡ true → (p x ≡ false) × (q x ≡ true)) → list_any t xs ≡ true → length (filter p xs) < length (filter q xs)
  filter-lt p q t [] within only any = absurd cc
  filter-lt p q t (x ∷ xs) within only any = grind (arith, within x, only x, filter-le p q xs within, filter-lt p q t xs within only)

  pub filter-within : (p : X → Bool) (xs : List X) → length (filter p xs) ≤ length xs
  filter-within p [] = omega arith
  filter-within p (x ∷ xs) = grind (arith, filter-within p xs)

  -- one is there that fails
  pub filter-fewer : (p t : X → Bool) (xs : List X) → ((x : X) → t x ≡ true → p x ≡ false) → list_any t xs ≡ true → length (filter p xs) < length xs
  filter-fewer p t [] fails any = absurd cc
  filter-fewer p t (x ∷ xs) fails any = grind (arith, fails x, filter-within p xs, filter-fewer p t xs fails)

  pub filter-some : (p : X → Bool) (xs : List X) → list_any p xs ≡ true → 0 < length (filter p xs)
  filter-some p [] any = absurd cc
  filter-some p (x ∷ xs) any = grind (arith, filter-some p xs)

  pub filter-zero : (p : X → Bool) (xs : List X) → ((x : X) → p x ≡ false) → length (filter p xs) ≡ 0
  filter-zero p [] fails = refl
  filter-zero p (x ∷ xs) fails = grind (arith, fails x, filter-zero p xs fails)

  pub any-mid : (p : X → Bool) (before : List X) (x : X) (behind : List X) → p x ≡ true → list_any p (before ++ x ∷ behind) ≡ true
  any-mid p [] x behind passes = grind (arith, passes)
  any-mid p (y ∷ before) x behind passes = grind (arith, any-mid p before x behind passes)

  -- each that passes shows that some pass
  pub all-some : (p : X → Bool) (xs : List X) → AllByRecursion (λ x. p x ≡ true → list_any p xs ≡ true) xs
  all-some p xs = all-split (λ x. p x ≡ true → list_any p xs ≡ true) xs (λ before x behind whole passes. rw whole (any-mid p before x behind passes))

  -- each element is there
  pub all-there : (t : X → X → Bool) (xs : List X) → ((x : X) → t x x ≡ true) → AllByRecursion (λ x. list_any (t x) xs ≡ true) xs
  all-there t xs same = all-split (λ x. list_any (t x) xs ≡ true) xs (λ before x behind whole. rw whole (any-mid (t x) before x behind (same x)))

  -- between elements of which something holds
  pub later-both : (P : X → Type 0) (R : X → X → Type 0) (xs : List X) → AllByRecursion P xs → AllLater R xs → AllLater (λ x y. P x × P y × R x y) xs
  later-both P R [] all later = tt
  later-both P R (x ∷ xs) all later = (by xs all.1 later.0, later-both P R xs all.1 later.1) where
    by : (ys : List X) → AllByRecursion P ys → AllByRecursion (R x) ys → AllByRecursion (λ y. P x × P y × R x y) ys
    by [] holds relates = tt
    by (y ∷ ys) holds relates = ((all.0, holds.0, relates.0), by ys holds.1 relates.1)

-- elements by a key: how many have a smaller one
module _ {X : Type 0} (key : X → ℕ) (xs : List X) where
  abbrev pub rank : ℕ → ℕ
  rank id = length (filter (λ x. nat_lt (key x) id) xs)

  abbrev pub is_there : ℕ → Bool
  is_there id = list_any (λ x. key x == id) xs

  pub rank-le : (a b : ℕ) → a ≤ b → rank a ≤ rank b
  rank-le a b le = filter-le (λ x. nat_lt (key x) a) (λ x. nat_lt (key x) b) xs (λ x lt. grind (arith, nat_tests, lt, le))

  pub rank-lt : (a b : ℕ) → is_there a ≡ true → a < b → rank a < rank b
  rank-lt a b there lt = filter-lt (λ x. nat_lt (key x) a) (λ x. nat_lt (key x) b) (λ x. key x == a) xs (λ x less. grind (arith, nat_tests, lt, less)) (λ x same. (grind (arith, nat_tests, same), grind (arith, nat_tests, same, lt))) there

  pub rank-one : (a b : ℕ) → is_there a ≡ true → is_there b ≡ true → rank a ≡ rank b → a ≡ b
  rank-one a b here there same = grind (arith, rank-lt a b here, rank-lt b a there, same)

  pub rank-same : (a b : ℕ) → is_there a ≡ true → is_there b ≡ true → (rank a == rank b) ≡ (a == b)
  rank-same a b here there = grind (arith, nat_tests, rank-one a b here there)

  pub rank-below : (a : ℕ) → is_there a ≡ true → rank a < length xs
  rank-below a there = filter-fewer (λ x. nat_lt (key x) a) (λ x. key x == a) xs (λ x same. grind (arith, nat_tests, same)) there

  pub rank-zero : rank 0 ≡ 0
  rank-zero = filter-zero (λ x. nat_lt (key x) 0) xs (λ x. grind (arith, nat_tests))

  pub keys-there : AllByRecursion (λ x. is_there (key x) ≡ true) xs
  keys-there = all-there (λ x y. key y == key x) xs (λ x. grind (arith, nat_tests))
