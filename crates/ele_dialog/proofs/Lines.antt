-- The first byte of a kind, and what is before it.
use Rattle.ele_dialog.proofs.Basics.{AllByRecursion, List, None, Some, [], arith, drop, eq-eqb, eqb-true, get_or, suc, take, true, zero, ℕ, ◌+◌, ◌++◌, ◌<◌, ◌==◌, ◌∷◌, ◌≡◌, ◌≢◌}
use Rattle.ele_lists.proofs.Taken.{cut-at}
use Rattle.memchr.specs.Find.{IsFirstByte, is_byte}

none_before : (c : ℕ) (xs : List ℕ) (n : ℕ) → ((k : ℕ) → k < n → (get_or xs k 0 == c) ≡ true → ⊥) → AllByRecursion (λ b. b ≢ c) (take n xs)
none_before c xs zero h = tt
none_before c [] (suc n) h = tt
none_before c (x ∷ xs) (suc n) h =
    (λ e. h 0 (omega arith) (eq-eqb x c e), none_before c xs n (λ k lt is. h (suc k) (omega (arith, lt)) is))

-- none is before the first
pub first_none : (c : ℕ) (xs : List ℕ) (at : ℕ) → IsFirstByte (is_byte c) xs (Some at) → AllByRecursion (λ b. b ≢ c) (take at xs)
first_none c xs at first = none_before c xs at (λ k lt is. first.0.before k (omega arith) lt is)

pub first_cut : (c : ℕ) (xs : List ℕ) (at : ℕ) → IsFirstByte (is_byte c) xs (Some at) → xs ≡ take at xs ++ c ∷ drop (at + 1) xs
first_cut c xs at first = cut-at xs at c 0 first.0.high (eqb-true (get_or xs at 0) c first.1)

-- there is none
pub never : (c : ℕ) (xs : List ℕ) → IsFirstByte (is_byte c) xs None → AllByRecursion (λ b. b ≢ c) xs
never c [] h = tt
never c (x ∷ xs) h =
    (λ e. h 0 (omega arith) (omega arith) (eq-eqb x c e), never c xs (λ k low high is. h (suc k) (omega arith) (omega (arith, high)) is))
