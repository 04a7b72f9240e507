-- A word around its first colon.
use Rattle.std.proofs.Common.{◌≡◌, ℕ, ◌+◌, ◌<◌, List, [], ◌∷◌, length, take, drop, get_or, true, false, Some, None, sym, ap, arith}
use Rattle.std.proofs.lemmas.Bool.{ne_eqb, eq-eqb}
use Rattle.std.proofs.lemmas.Bool.Decides.{nat_tests}
use Rattle.std.proofs.lemmas.List.Sums.{position_or_len_is}
use Rattle.std.specs.List.{after_first, before_first, list_any, position_or_len}
use Rattle.memchr.specs.Find.{IsFirstByte, is_byte}
use Rattle.ele_suggest.specs.Words.{is_colon}

colon_found : (xs : List ℕ) (at : ℕ) → IsFirstByte (is_byte 58) xs (Some at) → position_or_len is_colon xs ≡ at
colon_found xs at h =
    position_or_len_is is_colon xs at 0 (omega (arith, h.0.high)) (λ k lt. ne_eqb (get_or xs k 0) 58 (λ e. h.0.before k (omega arith) lt (eq-eqb (get_or xs k 0) 58 e))) (λ lt. h.1)

any_within : (xs : List ℕ) → position_or_len is_colon xs < length xs → list_any is_colon xs ≡ true
any_within [] lt = absurd (omega (arith, lt))
any_within (x ∷ xs) lt = grind (arith, nat_tests, any_within xs)

any_past : (xs : List ℕ) → position_or_len is_colon xs ≡ length xs → list_any is_colon xs ≡ false
any_past [] e = cc
any_past (x ∷ xs) e = grind (arith, nat_tests, any_past xs)

pub has_colon : (xs : List ℕ) (at : ℕ) → IsFirstByte (is_byte 58) xs (Some at) → list_any is_colon xs ≡ true
has_colon xs at h = any_within xs (omega (arith, h.0.high, colon_found xs at h))

pub before_is : (xs : List ℕ) (at : ℕ) → IsFirstByte (is_byte 58) xs (Some at) → take at xs ≡ before_first is_colon xs
before_is xs at h = ap (λ (n : ℕ). take n xs) (sym (colon_found xs at h))

pub after_is : (xs : List ℕ) (at : ℕ) → IsFirstByte (is_byte 58) xs (Some at) → drop (at + 1) xs ≡ after_first is_colon xs
after_is xs at h = ap (λ (n : ℕ). drop (n + 1) xs) (sym (colon_found xs at h))

pub no_colon : (xs : List ℕ) → IsFirstByte (is_byte 58) xs None → list_any is_colon xs ≡ false
no_colon xs h =
    any_past xs (position_or_len_is is_colon xs (length xs) 0 (omega arith) (λ k lt. ne_eqb (get_or xs k 0) 58 (λ e. h k (omega arith) lt (eq-eqb (get_or xs k 0) 58 e))) (λ lt. absurd (omega (arith, lt))))
