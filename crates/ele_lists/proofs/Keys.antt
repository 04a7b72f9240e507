-- Rows of rising keys: what a binary search by a key finds (`place_of`), and that rising keys are parted at any key.
use Rattle.ele_lists.proofs.Basics.{Bool, IsNonDecreasingBy, IsPartitionPoint, IsPartitionedBy, IsPartitionedBy-ltb, List, None, Rises, Some, [], arith, false, filter, get_or, stands_by, is_behind, length, ltb, nat_tests, not, position, position_or_len_is, refl, remove_first, suc, true, unwrap_or, ℕ, ◌<◌, ◌∷◌, ◌≡◌, ◌≢◌, ◌≤◌}
use Rattle.ele_lists.proofs.Alls.{later-place}
use Rattle.ele_lists.proofs.Edits.{all-weaker}
use Rattle.ele_lists.proofs.Filters.{filter-all}

module _ {X : Type 0} (p : X → Bool) (xs : List X) where
  -- the first place that passes
  pub position-is : (i : ℕ) (d : X) → i < length xs → ((k : ℕ) → k < i → p (get_or xs k d) ≡ false) → p (get_or xs i d) ≡ true → position p xs ≡ Some i
  position-is i d lt before here = grind (arith, nat_tests, position_or_len_is p xs i d (omega arith) before (λ _. here))

-- or none
position-none : {X : Type 0} (p : X → Bool) (xs : List X) → ((k : ℕ) (d : X) → k < length xs → p (get_or xs k d) ≡ false) → position p xs ≡ None
position-none p [] fails = refl
position-none p (x ∷ xs) fails = grind (arith, nat_tests, fails 0 x, position-none p xs (λ k d lt. fails (suc k) d (omega arith)))

module _ {X : Type 0} (key : X → ℕ) where
  rises-le : (xs : List X) → Rises key xs → IsNonDecreasingBy key xs
  rises-le xs rises = λ i j d le lt. grind (arith, later-place (λ x y. key x < key y) xs i j d rises)

  -- a row of the key is at its place
  pub place-there : (xs : List X) (this i : ℕ) (x : X) → Rises key xs → i < length xs → ((d : X) → x ≡ get_or xs i d) → key x ≡ this → position (stands_by key this) xs ≡ Some i
  place-there xs this i x rises lt is same =
      position-is (stands_by key this) xs i x lt (λ k less. grind (arith, nat_tests, later-place (λ x y. key x < key y) xs k i x rises less lt, is x)) (grind (arith, nat_tests, is x))

  pub rises-parted : (xs : List X) (this : ℕ) → Rises key xs → IsPartitionedBy (λ x. ltb (key x) this) xs
  rises-parted xs this rises = IsPartitionedBy-ltb key xs this (rises-le xs rises)

  module _ (xs : List X) (this i : ℕ) (cut : IsPartitionPoint (λ x. ltb (key x) this ≡ true) (λ x. ltb (key x) this ≡ false) xs i) where
    below : (k : ℕ) (d : X) → k < i → key (get_or xs k d) < this
    below k d lt = let h = cut.0 k d (omega arith) lt in grind (arith, nat_tests)

    least : (k : ℕ) (d : X) → i ≤ k → k < length xs → this ≤ key (get_or xs k d)
    least k d le lt = let h = cut.1 k d le lt in grind (arith, nat_tests)

    -- a row is there
    module _ (x : X) (rises : Rises key xs) (lt : i < length xs) (is : (d : X) → x ≡ get_or xs i d) where
      pub place-found : key x ≡ this → position (stands_by key this) xs ≡ Some i
      place-found same = position-is (stands_by key this) xs i x lt (λ k less. grind (arith, nat_tests, below k x less)) (grind (arith, nat_tests, is x))

      module _ (other : key x ≢ this) where
        above : (k : ℕ) (d : X) → i ≤ k → k < length xs → this < key (get_or xs k d)
        above k d le within = grind (arith, later-place (λ x y. key x < key y) xs i k d rises, least i d, is d)

        pub place-missing : position (stands_by key this) xs ≡ None
        place-missing = position-none (stands_by key this) xs (λ k d within. grind (arith, nat_tests, below k d, above k d))

        pub place-gap : unwrap_or (position (is_behind key this) xs) (length xs) ≡ i
        place-gap = grind (arith, position-is (is_behind key this) xs i x lt (λ k less. grind (arith, nat_tests, below k x less)) (grind (arith, nat_tests, above i x)))

    -- or none does
    module _ (past : length xs ≤ i) where
      pub end-missing : position (stands_by key this) xs ≡ None
      end-missing = position-none (stands_by key this) xs (λ k d within. grind (arith, nat_tests, below k d))

      pub end-gap : i ≤ length xs → unwrap_or (position (is_behind key this) xs) (length xs) ≡ i
      end-gap within = grind (arith, position-none (is_behind key this) xs (λ k d lt. grind (arith, nat_tests, below k d)))

-- the others, if the row of a key is removed
pub remove_first-key : {X : Type 0} (key : X → ℕ) (this : ℕ) (xs : List X) → Rises key xs → remove_first (stands_by key this) xs ≡ filter (λ x. not (stands_by key this x)) xs
remove_first-key key this [] rises = refl
remove_first-key key this (x ∷ xs) rises = grind (arith, nat_tests, filter-all, stands_by, all-weaker, remove_first-key key this xs)
