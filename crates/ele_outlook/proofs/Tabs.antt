-- The first tab of a text.
use Rattle.std.proofs.Common.{◌≡◌, ℕ, ◌+◌, List, [], length, take, drop, get_or, Some, None, sym, ap, ◌∙◌, arith}
use Rattle.std.proofs.lemmas.Bool.{ne_eqb, eq-eqb}
use Rattle.std.proofs.lemmas.List.{take_all, drop_all}
use Rattle.std.proofs.lemmas.List.Sums.{position_or_len_is}
use Rattle.std.specs.List.{after_first, before_first, position_or_len}
use Rattle.memchr.specs.Find.{IsFirstByte, is_byte}
use Rattle.ele_outlook.specs.Input.{is_tab}

-- the first tab
pub tab_found : (xs : List ℕ) (at : ℕ) → IsFirstByte (is_byte 9) xs (Some at) → position_or_len is_tab xs ≡ at
tab_found xs at h =
    position_or_len_is is_tab xs at 0 (omega (arith, h.0.high)) (λ k lt. ne_eqb (get_or xs k 0) 9 (λ e. h.0.before k (omega arith) lt (eq-eqb (get_or xs k 0) 9 e))) (λ lt. h.1)

pub tab_none : (xs : List ℕ) → IsFirstByte (is_byte 9) xs None → position_or_len is_tab xs ≡ length xs
tab_none xs h =
    position_or_len_is is_tab xs (length xs) 0 (omega arith) (λ k lt. ne_eqb (get_or xs k 0) 9 (λ e. h k (omega arith) lt (eq-eqb (get_or xs k 0) 9 e))) (λ lt. absurd (omega (arith, lt)))

-- without a tab the whole line is the part before it, and nothing is after it
pub before_none : (xs : List ℕ) → IsFirstByte (is_byte 9) xs None → xs ≡ before_first is_tab xs
before_none xs h = sym (take_all (length xs) xs (omega arith)) ∙ ap (λ (n : ℕ). take n xs) (sym (tab_none xs h))

pub after_none : (xs : List ℕ) → IsFirstByte (is_byte 9) xs None → ◌≡◌ {A = List ℕ} [] (after_first is_tab xs)
after_none xs h = sym (drop_all (length xs + 1) xs (omega arith)) ∙ ap (λ (n : ℕ). drop (n + 1) xs) (sym (tab_none xs h))
