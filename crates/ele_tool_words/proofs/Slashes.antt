-- A word around its first slash.
use Rattle.std.proofs.Common.{◌≡◌, ℕ, ◌+◌, ◌<◌, List, [], ◌∷◌, length, take, drop, get_or, true, false, Some, None, sym, ap, arith}
use Rattle.std.proofs.lemmas.Bool.{ne_eqb, eq-eqb}
use Rattle.std.proofs.lemmas.Bool.Decides.{nat_tests}
use Rattle.std.proofs.lemmas.List.Sums.{position_or_len_is}
use Rattle.std.specs.List.{after_first, before_first, list_any, position_or_len}
use Rattle.memchr.specs.Find.{IsFirstByte, is_byte}
use Rattle.ele_tool_words.specs.PolicyWord.{is_slash}

slash_found : (xs : List ℕ) (at : ℕ) → IsFirstByte (is_byte 47) xs (Some at) → position_or_len is_slash xs ≡ at
slash_found xs at h =
    position_or_len_is is_slash xs at 0 (omega (arith, h.0.high)) (λ k lt. ne_eqb (get_or xs k 0) 47 (λ e. h.0.before k (omega arith) lt (eq-eqb (get_or xs k 0) 47 e))) (λ lt. h.1)

any_within : (xs : List ℕ) → position_or_len is_slash xs < length xs → list_any is_slash xs ≡ true
any_within [] lt = absurd (omega (arith, lt))
any_within (x ∷ xs) lt = grind (arith, nat_tests, any_within xs)

any_past : (xs : List ℕ) → position_or_len is_slash xs ≡ length xs → list_any is_slash xs ≡ false
any_past [] e = cc
any_past (x ∷ xs) e = grind (arith, nat_tests, any_past xs)

pub has_slash : (xs : List ℕ) (at : ℕ) → IsFirstByte (is_byte 47) xs (Some at) → list_any is_slash xs ≡ true
has_slash xs at h = any_within xs (omega (arith, h.0.high, slash_found xs at h))

pub before_is : (xs : List ℕ) (at : ℕ) → IsFirstByte (is_byte 47) xs (Some at) → take at xs ≡ before_first is_slash xs
before_is xs at h = ap (λ (n : ℕ). take n xs) (sym (slash_found xs at h))

pub behind_is : (xs : List ℕ) (at : ℕ) → IsFirstByte (is_byte 47) xs (Some at) → drop (at + 1) xs ≡ after_first is_slash xs
behind_is xs at h = ap (λ (n : ℕ). drop (n + 1) xs) (sym (slash_found xs at h))

pub no_slash : (xs : List ℕ) → IsFirstByte (is_byte 47) xs None → list_any is_slash xs ≡ false
no_slash xs h =
    any_past xs (position_or_len_is is_slash xs (length xs) 0 (omega arith) (λ k lt. ne_eqb (get_or xs k 0) 47 (λ e. h k (omega arith) lt (eq-eqb (get_or xs k 0) 47 e))) (λ lt. absurd (omega (arith, lt))))
