-- A table of 256 entries gives the sum a byte at a time.
use Rattle.std.proofs.Common.{◌≡◌, ℕ, zero, suc, ◌+◌, ◌*◌, ◌/◌, ◌%◌, ◌^◌, ◌<◌, ◌≤◌, bit_xor, refl, sym, ap, ◌∙◌, arith, inl, inr, ◌⊎◌, ◌-◌, List, get_or, length, drop, set, bit_and}
use Rattle.std.proofs.lemmas.Bool.{cases_lt, cases_eq}
use Rattle.std.proofs.lemmas.List.{at_drop_more, at_drop_all, get_or-set_same, get_or-set_other}
use Rattle.std.proofs.lemmas.Nat.{and_mask, xor_shr, xor_mod, xor_block, xor_comm}
use lib.Bits.{xor_assoc, xor_self, xor_zero_r}
use Rattle.ele_checkpoint.specs.Sum.{after, shifted, sum, times}

abbrev pub poly : ℕ
poly = 0x82f63b78

none : (byte : ℕ) → byte < 256 → byte / 2 ^ 8 ≡ 0
none byte small = omega arith

pub parity : (x : ℕ) → (x % 2 ≡ 0) ⊎ (x % 2 ≡ 1)
parity x = elim (cases_lt (x % 2) 1) [ inl h ↦ inl (omega arith) | inr h ↦ inr (omega arith) ]

pub even : (x : ℕ) → x % 2 ≡ 0 → shifted x ≡ x / 2
unfolding shifted
even x e = rw e refl

pub odd : (x : ℕ) → x % 2 ≡ 1 → shifted x ≡ bit_xor (x / 2) poly
unfolding shifted
odd x e = rw e refl

halves : (a b : ℕ) → bit_xor a b / 2 ≡ bit_xor (a / 2) (b / 2)
halves a b = xor_shr a b 1

lows : (a b : ℕ) → bit_xor a b % 2 ≡ bit_xor (a % 2) (b % 2)
lows a b = xor_mod a b 1

-- the polynomial moves out of a sum of both
pub moved : (a b p : ℕ) → bit_xor (bit_xor a b) p ≡ bit_xor (bit_xor a p) b
moved a b p = xor_assoc a b p ∙ ap (bit_xor a) (xor_comm b p) ∙ sym (xor_assoc a p b)

twice : (a b p : ℕ) → bit_xor (bit_xor a p) (bit_xor b p) ≡ bit_xor a b
twice a b p =
    sym (xor_assoc (bit_xor a p) b p)
    ∙ ap (λ (t : ℕ). bit_xor t p) (sym (moved a b p))
    ∙ xor_assoc (bit_xor a b) p p
    ∙ ap (bit_xor (bit_xor a b)) (xor_self p)
    ∙ xor_zero_r (bit_xor a b)

pub shifted_xor : (a b : ℕ) → shifted (bit_xor a b) ≡ bit_xor (shifted a) (shifted b)
shifted_xor a b =
    elim (parity a) [
      | inl ea ↦
          elim (parity b) [
            | inl eb ↦
                let low : bit_xor a b % 2 ≡ 0 = lows a b ∙ rw (ea, eb) refl in
                rw (even (bit_xor a b) low, even a ea, even b eb) (halves a b)
            | inr eb ↦
                let low : bit_xor a b % 2 ≡ 1 = lows a b ∙ rw (ea, eb) refl in
                rw (odd (bit_xor a b) low, even a ea, odd b eb) (ap (λ (t : ℕ). bit_xor t poly) (halves a b) ∙ xor_assoc (a / 2) (b / 2) poly)
          ]
      | inr ea ↦
          elim (parity b) [
            | inl eb ↦
                let low : bit_xor a b % 2 ≡ 1 = lows a b ∙ rw (ea, eb) refl in
                rw (odd (bit_xor a b) low, odd a ea, even b eb) (ap (λ (t : ℕ). bit_xor t poly) (halves a b) ∙ moved (a / 2) (b / 2) poly)
            | inr eb ↦
                let low : bit_xor a b % 2 ≡ 0 = lows a b ∙ rw (ea, eb) refl in
                rw (even (bit_xor a b) low, odd a ea, odd b eb) (halves a b ∙ sym (twice (a / 2) (b / 2) poly))
          ]
    ]

times_xor : (n a b : ℕ) → times n (bit_xor a b) ≡ bit_xor (times n a) (times n b)
unfolding times
times_xor zero a b = refl
times_xor (suc n) a b = ap (times n) (shifted_xor a b) ∙ times_xor n (shifted a) (shifted b)

shifted_double : (h : ℕ) → shifted (2 * h) ≡ h
shifted_double h = even (2 * h) (omega arith) ∙ omega arith

-- what is above the low byte comes down
times_high : (h : ℕ) → times 8 (h * 256) ≡ h
unfolding times
times_high h =
    let s1 : shifted (h * 256) ≡ h * 128 = ap shifted (omega arith) ∙ shifted_double (h * 128) in
    let s2 : shifted (h * 128) ≡ h * 64 = ap shifted (omega arith) ∙ shifted_double (h * 64) in
    let s3 : shifted (h * 64) ≡ h * 32 = ap shifted (omega arith) ∙ shifted_double (h * 32) in
    let s4 : shifted (h * 32) ≡ h * 16 = ap shifted (omega arith) ∙ shifted_double (h * 16) in
    let s5 : shifted (h * 16) ≡ h * 8 = ap shifted (omega arith) ∙ shifted_double (h * 8) in
    let s6 : shifted (h * 8) ≡ h * 4 = ap shifted (omega arith) ∙ shifted_double (h * 4) in
    let s7 : shifted (h * 4) ≡ h * 2 = ap shifted (omega arith) ∙ shifted_double (h * 2) in
    let s8 : shifted (h * 2) ≡ h = ap shifted (omega arith) ∙ shifted_double h in
    rw (s1, s2, s3, s4, s5, s6, s7) s8

apart : (s : ℕ) → s ≡ bit_xor (s / 256 * 256) (s % 256)
apart s =
    let low : s % 256 < 2 ^ 8 = omega arith in
    let b = xor_block 8 (s / 256) 0 0 (s % 256) (omega arith) low in
    let left : s / 256 * 2 ^ 8 + 0 ≡ s / 256 * 256 = omega arith in
    let right : 0 * 2 ^ 8 + s % 256 ≡ s % 256 = omega arith in
    let whole : bit_xor (s / 256) 0 * 2 ^ 8 + bit_xor 0 (s % 256) ≡ s = rw (xor_zero_r (s / 256)) (omega arith) in
    sym (ap (λ (x : ℕ). bit_xor x (s % 256)) (sym left) ∙ ap (bit_xor (s / 256 * 2 ^ 8 + 0)) (sym right) ∙ b ∙ whole)

-- one byte by the table
pub by_table : (state byte : ℕ) → byte < 256 → times 8 (bit_xor state byte) ≡ bit_xor (times 8 (bit_xor state byte % 256)) (state / 256)
by_table state byte small =
    let s = bit_xor state byte in
    let high : s / 256 ≡ state / 256 = xor_shr state byte 8 ∙ rw (none byte small) (xor_zero_r (state / 2 ^ 8)) in
    ap (times 8) (apart s) ∙ times_xor 8 (s / 256 * 256) (s % 256) ∙ ap (λ (x : ℕ). bit_xor x (times 8 (s % 256))) (times_high (s / 256) ∙ high) ∙ xor_comm (state / 256) (times 8 (s % 256))

-- ---- in loops

pub times_step : (n i x y : ℕ) → i < n → y ≡ shifted x → times (n - i) x ≡ times (n - (i + 1)) y
unfolding times
times_step n i x y lt e =
    let k : n - i ≡ suc (n - (i + 1)) = omega arith in
    ap (λ (m : ℕ). times m x) k ∙ ap (times (n - (i + 1))) (sym e)

pub times_end : (n i x : ℕ) → n ≤ i → times (n - i) x ≡ x
unfolding times
times_end n i x le =
    let k : n - i ≡ 0 = omega arith in
    ap (λ (m : ℕ). times m x) k

pub filled_more : (t : List ℕ) (b e : ℕ) → b < length t → e ≡ times 8 b → ((k : ℕ) → k < b → get_or t k 0 ≡ times 8 k) → (k : ℕ) → k < b + 1 → get_or (set t b e) k 0 ≡ times 8 k
filled_more t b e within is h k lt =
    elim (cases_eq k b) [
      | inl same ↦ ap (λ (j : ℕ). get_or (set t b e) j 0) same ∙ get_or-set_same t b e 0 within ∙ is ∙ ap (times 8) (sym same)
      | inr other ↦ get_or-set_other t b k e 0 other ∙ h k (omega arith)
    ]

low_byte : (x : ℕ) → bit_and x 255 ≡ x % 256
low_byte x = and_mask x 8

pub byte_more : (t : List ℕ) (state : ℕ) (bytes : List ℕ) (i : ℕ) → ((k : ℕ) → k < 256 → get_or t k 0 ≡ times 8 k) → i < length bytes → get_or bytes i 0 < 256
    → after (bit_xor (get_or t (bit_and (bit_xor state (get_or bytes i 0)) 255) 0) (state / 256)) (drop (i + 1) bytes) ≡ after state (drop i bytes)
byte_more t state bytes i entries lt small =
    let b = get_or bytes i 0 in
    let x = bit_xor state b in
    let entry : get_or t (bit_and x 255) 0 ≡ times 8 (x % 256) = ap (λ (k : ℕ). get_or t k 0) (low_byte x) ∙ entries (x % 256) (omega arith) in
    sym (at_drop_more (after state) bytes i 0 lt ∙ ap (λ (s : ℕ). after s (drop (i + 1) bytes)) (by_table state b small ∙ ap (λ (y : ℕ). bit_xor y (state / 256)) (sym entry)))

pub byte_done : (state : ℕ) (bytes : List ℕ) (i : ℕ) → length bytes ≤ i → after state (drop i bytes) ≡ after 4294967295 bytes → bit_xor state 4294967295 ≡ sum bytes
unfolding sum
byte_done state bytes i le h = ap (λ (s : ℕ). bit_xor s 4294967295) (sym (at_drop_all (after state) bytes i le) ∙ h)
