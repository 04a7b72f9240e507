-- Rows at the places of their numbers.
use Rattle.ele_names.proofs.Words.{◌≡◌, ℕ, suc, ◌+◌, ◌-◌, ◌≤◌, ◌<◌, Bool, List, [], ◌∷◌, ◌++◌, length, slice_get, slice_set, Option, Some, None, IsSome, cond, filter_map, refl, arith, AllByRecursion, IsStrictlySortedBy, Less, nat_cmp, is_at, insert_entry, keys_of, values_of, remove_entry, option_and_then, false≢true, nat_tests, nat_cmp_total, slice_get_past, lookup-insert_entry, at_itself, value_at, all-weaker, IsRising, after_head, all_keys_without, not_yet, pushed, rest_rises, entries_from}

module _ {X : Type 0} where
  pub from_below : (n : ℕ) (xs : List (Option X)) (m : ℕ) → m ≡ n + length xs → AllByRecursion (λ k. k < m) (keys_of (entries_from n xs))
  from_below n [] m is = tt
  from_below n (x ∷ xs) m is = grind (arith, from_below (suc n) xs m)

  pub from_few : (n : ℕ) (xs : List (Option X)) → length (entries_from n xs) ≤ length xs
  from_few n [] = omega arith
  from_few n (x ∷ xs) = grind (arith, from_few (suc n) xs)

  -- a place after all others
  pub from_push : (n : ℕ) (xs : List (Option X)) (v : X) (m : ℕ) → m ≡ n + length xs → entries_from n (xs ++ Some v ∷ []) ≡ entries_from n xs ++ (m, v) ∷ []
  from_push n [] v m is = grind arith
  from_push n (x ∷ xs) v m is = grind (arith, from_push (suc n) xs v m)

  pub from_none : (n : ℕ) (xs : List (Option X)) → entries_from n (xs ++ None ∷ []) ≡ entries_from n xs
  from_none n [] = refl
  from_none n (x ∷ xs) = grind (arith, from_none (suc n) xs)

  -- nothing is at a number before all places
  none_at : (m n : ℕ) (xs : List (Option X)) → m < n → value_at (entries_from n xs) m ≡ None
  none_at m n [] lt = refl
  none_at m n (x ∷ xs) lt = grind (arith, nat_tests, none_at m (suc n) xs)

  none_leaves : (m n : ℕ) (xs : List (Option X)) → m < n → remove_entry (is_at (nat_cmp m)) (entries_from n xs) ≡ entries_from n xs
  none_leaves m n [] lt = refl
  none_leaves m n (x ∷ xs) lt = grind (arith, nat_tests, none_leaves m (suc n) xs)

  pub from_at : (n : ℕ) (xs : List (Option X)) (i m : ℕ) → m ≡ n + i → value_at (entries_from n xs) m ≡ option_and_then (λ x. x) (slice_get xs i)
  from_at n [] i m is = refl
  from_at n (x ∷ xs) i m is = grind (arith, nat_tests, none_at m (suc n) xs, from_at (suc n) xs (i - 1) m)

  pub from_set : (n : ℕ) (xs : List (Option X)) (i m : ℕ) (v : X) → m ≡ n + i → IsSome (value_at (entries_from n xs) m) → entries_from n (slice_set xs i (Some v)) ≡ insert_entry nat_cmp (entries_from n xs) m v
  from_set n [] i m v is some = absurd (false≢true some)
  from_set n (x ∷ xs) i m v is some = grind (arith, nat_tests, none_at m (suc n) xs, from_set (suc n) xs (i - 1) m v)

  pub from_clear : (n : ℕ) (xs : List (Option X)) (i m : ℕ) → m ≡ n + i → entries_from n (slice_set xs i None) ≡ remove_entry (is_at (nat_cmp m)) (entries_from n xs)
  from_clear n [] i m is = refl
  from_clear n (x ∷ xs) i m is = grind (arith, nat_tests, none_leaves m (suc n) xs, from_clear (suc n) xs (i - 1) m)

  -- the rows without their numbers
  pub from_values : (n : ℕ) (xs : List (Option X)) → values_of (entries_from n xs) ≡ filter_map (λ x. x) xs
  from_values n [] = refl
  from_values n (x ∷ xs) = grind (arith, from_values (suc n) xs)

  -- entries of rising numbers without one
  pub rises_without : (test : ℕ → Bool) (es : List (ℕ × X)) → IsRising es → IsRising (remove_entry test es)
  unfolding IsStrictlySortedBy
  rises_without test [] up = tt
  rises_without test (e ∷ es) up = grind (arith, nat_tests, all_keys_without (λ k. nat_cmp e.0 k ≡ Less) test es up.0, rises_without test es up.1)

  pub gone_at : (n k : ℕ) (es : List (ℕ × X)) → IsRising es → value_at (remove_entry (is_at (nat_cmp n)) es) k ≡ cond (is_at (nat_cmp n) k) None (value_at es k)
  gone_at n k [] up = grind (arith, nat_tests)
  gone_at n k (e ∷ es) up = grind (arith, nat_tests, gone_at n k es (rest_rises e es up), after_head e es k)

  pub at_last : (n : ℕ) (x : X) (es fs : List (ℕ × X)) → es ≡ fs ++ (n, x) ∷ [] → AllByRecursion (λ k. k < n) (keys_of fs) → value_at es n ≡ Some x
  at_last n x es fs is below = grind (arith, nat_tests, is, pushed n x fs below, lookup-insert_entry nat_cmp_total n fs n x, at_itself n)

  pub none_past : (n : ℕ) (x : X) (es fs : List (ℕ × X)) → es ≡ fs ++ (n, x) ∷ [] → AllByRecursion (λ k. k < n) (keys_of fs) → (s : ℕ) → n < s → value_at es s ≡ None
  none_past n x es fs is below s over = grind (arith, nat_tests, is, pushed n x fs below, lookup-insert_entry nat_cmp_total s fs n x, not_yet s fs (all-weaker (λ k. k < n) (λ k. k < s) (keys_of fs) (λ k h. omega (arith, over, h)) below))

  pub without_last : (n : ℕ) (x : X) (es fs : List (ℕ × X)) → es ≡ fs ++ (n, x) ∷ [] → AllByRecursion (λ k. k < n) (keys_of fs) → remove_entry (is_at (nat_cmp n)) es ≡ fs
  without_last n x es [] is below = grind (arith, nat_tests, is)
  without_last n x es (f ∷ fs) is below = grind (arith, nat_tests, is, without_last n x (fs ++ (n, x) ∷ []) fs refl below.1)

  -- whatever the places are numbered from
  module _ (xs : List (Option X)) where
    pub at_place : (i : ℕ) → value_at (entries_from 0 xs) i ≡ option_and_then (λ x. x) (slice_get xs i)
    at_place i = from_at 0 xs i i (omega arith)

    pub place_cleared : (i : ℕ) → entries_from 0 (slice_set xs i None) ≡ remove_entry (is_at (nat_cmp i)) (entries_from 0 xs)
    place_cleared i = from_clear 0 xs i i (omega arith)

    pub place_pushed : (v : X) → entries_from 0 (xs ++ Some v ∷ []) ≡ entries_from 0 xs ++ (length xs, v) ∷ []
    place_pushed v = from_push 0 xs v (length xs) (omega arith)

    -- a number that has a row is that of a taken place
    module _ (i : ℕ) (some : IsSome (value_at (entries_from 0 xs) i)) where
      pub placed_within : i < length xs
      placed_within = grind (arith, nat_tests, some, at_place i, slice_get_past xs i)

      pub place_set : (v : X) → entries_from 0 (slice_set xs i (Some v)) ≡ insert_entry nat_cmp (entries_from 0 xs) i v
      place_set v = from_set 0 xs i i v (omega arith) some

  -- if there is no place, there is no row
  pub none_taken : (xs : List (Option X)) → (0 < length xs → ⊥) → entries_from 0 xs ≡ []
  none_taken [] none = refl
  none_taken (x ∷ xs) none = absurd (none (omega arith))
