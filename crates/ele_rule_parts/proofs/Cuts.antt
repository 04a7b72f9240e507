-- A word around its first mark.
use Rattle.std.proofs.Common.{◌≡◌, ℕ, ◌+◌, ◌<◌, List, [], ◌∷◌, length, take, drop, get_or, true, false, Some, None, sym, ap, arith}
use Rattle.std.proofs.lemmas.Bool.{ne_eqb, eq-eqb}
use Rattle.std.proofs.lemmas.Bool.Decides.{nat_tests}
use Rattle.std.proofs.lemmas.List.Sums.{position_or_len_is}
use Rattle.std.specs.List.{after_first, before_first, list_any, position_or_len}
use Rattle.memchr.specs.Find.{IsFirstByte, is_byte}
use Rattle.ele_rule_parts.specs.Marked.{is_mark}

mark_found : (mark : ℕ) (xs : List ℕ) (at : ℕ) → IsFirstByte (is_byte mark) xs (Some at) → position_or_len (is_mark mark) xs ≡ at
mark_found mark xs at h =
    position_or_len_is (is_mark mark) xs at 0 (omega (arith, h.0.high)) (λ k lt. ne_eqb (get_or xs k 0) mark (λ e. h.0.before k (omega arith) lt (eq-eqb (get_or xs k 0) mark e))) (λ lt. h.1)

any_within : (mark : ℕ) (xs : List ℕ) → position_or_len (is_mark mark) xs < length xs → list_any (is_mark mark) xs ≡ true
any_within mark [] lt = absurd (omega (arith, lt))
any_within mark (x ∷ xs) lt = grind (arith, nat_tests, any_within mark xs)

any_past : (mark : ℕ) (xs : List ℕ) → position_or_len (is_mark mark) xs ≡ length xs → list_any (is_mark mark) xs ≡ false
any_past mark [] e = cc
any_past mark (x ∷ xs) e = grind (arith, nat_tests, any_past mark xs)

pub has_mark : (mark : ℕ) (xs : List ℕ) (at : ℕ) → IsFirstByte (is_byte mark) xs (Some at) → list_any (is_mark mark) xs ≡ true
has_mark mark xs at h = any_within mark xs (omega (arith, h.0.high, mark_found mark xs at h))

pub before_is : (mark : ℕ) (xs : List ℕ) (at : ℕ) → IsFirstByte (is_byte mark) xs (Some at) → take at xs ≡ before_first (is_mark mark) xs
before_is mark xs at h = ap (λ (n : ℕ). take n xs) (sym (mark_found mark xs at h))

pub after_is : (mark : ℕ) (xs : List ℕ) (at : ℕ) → IsFirstByte (is_byte mark) xs (Some at) → drop (at + 1) xs ≡ after_first (is_mark mark) xs
after_is mark xs at h = ap (λ (n : ℕ). drop (n + 1) xs) (sym (mark_found mark xs at h))

pub no_mark : (mark : ℕ) (xs : List ℕ) → IsFirstByte (is_byte mark) xs None → list_any (is_mark mark) xs ≡ false
no_mark mark xs h =
    any_past mark xs (position_or_len_is (is_mark mark) xs (length xs) 0 (omega arith) (λ k lt. ne_eqb (get_or xs k 0) mark (λ e. h k (omega arith) lt (eq-eqb (get_or xs k 0) mark e))) (λ lt. absurd (omega (arith, lt))))
