-- If one byte is changed, the sum changes: a step leads from two states to two.
use Rattle.std.proofs.Common.{◌≡◌, ℕ, zero, suc, ◌/◌, ◌%◌, ◌^◌, ◌<◌, bit_xor, List, [], ◌∷◌, ◌++◌, refl, sym, ap, ◌∙◌, arith, inl, inr}
use Rattle.std.proofs.lemmas.Nat.{xor_comm, xor_lt, xor_of_32}
use lib.Bits.{xor_assoc, xor_self, xor_zero_r}
use Rattle.ele_checkpoint.specs.Sum.{AreBytes, after, shifted, sum, times}
use Rattle.ele_checkpoint.proofs.Sums.{even, moved, odd, parity, poly}

-- what both are, the other is
same_right : (a b p : ℕ) → bit_xor a p ≡ bit_xor b p → a ≡ b
same_right a b p e =
    let undo = λ (x : ℕ). xor_assoc x p p ∙ ap (bit_xor x) (xor_self p) ∙ xor_zero_r x in
    sym (undo a) ∙ ap (λ (t : ℕ). bit_xor t p) e ∙ undo b

same_left : (p a b : ℕ) → bit_xor p a ≡ bit_xor p b → a ≡ b
same_left p a b e = same_right a b p (xor_comm a p ∙ e ∙ xor_comm p b)

-- the top bit of the polynomial is in no half
halved_apart : (a b : ℕ) → a < 2 ^ 32 → b < 2 ^ 32 → a / 2 ≡ bit_xor (b / 2) poly → ⊥
halved_apart a b small small' e =
    let half : bit_xor (a / 2) (b / 2) < 2 ^ 31 = xor_lt 31 (a / 2) (b / 2) (omega arith) (omega arith) in
    let top : bit_xor (a / 2) (b / 2) ≡ poly = ap (λ (t : ℕ). bit_xor t (b / 2)) e ∙ moved (b / 2) poly (b / 2) ∙ ap (λ (t : ℕ). bit_xor t poly) (xor_self (b / 2)) ∙ xor_comm 0 poly ∙ xor_zero_r poly in
    omega arith

one_shifted : (a b : ℕ) → a < 2 ^ 32 → b < 2 ^ 32 → shifted a ≡ shifted b → a ≡ b
one_shifted a b small small' e =
    elim (parity a) [
      | inl ea ↦
          elim (parity b) [
            | inl eb ↦ let h : a / 2 ≡ b / 2 = sym (even a ea) ∙ e ∙ even b eb in omega arith
            | inr eb ↦ absurd (halved_apart a b small small' (sym (even a ea) ∙ e ∙ odd b eb))
          ]
      | inr ea ↦
          elim (parity b) [
            | inl eb ↦ absurd (halved_apart b a small' small (sym (even b eb) ∙ sym e ∙ odd a ea))
            | inr eb ↦ let h : a / 2 ≡ b / 2 = same_right (a / 2) (b / 2) poly (sym (odd a ea) ∙ e ∙ odd b eb) in omega arith
          ]
    ]

shifted_small : (x : ℕ) → x < 2 ^ 32 → shifted x < 2 ^ 32
shifted_small x small =
    elim (parity x) [
      | inl e ↦ rw (even x e) (omega arith)
      | inr e ↦ rw (odd x e) (xor_of_32 (x / 2) poly (omega arith) (omega arith))
    ]

times_small : (n x : ℕ) → x < 2 ^ 32 → times n x < 2 ^ 32
unfolding times
times_small zero x small = small
times_small (suc n) x small = times_small n (shifted x) (shifted_small x small)

one_times : (n a b : ℕ) → a < 2 ^ 32 → b < 2 ^ 32 → times n a ≡ times n b → a ≡ b
unfolding times
one_times zero a b small small' e = e
one_times (suc n) a b small small' e = one_shifted a b small small' (one_times n (shifted a) (shifted b) (shifted_small a small) (shifted_small b small') e)

with_byte : (state byte : ℕ) → state < 2 ^ 32 → byte < 256 → bit_xor state byte < 2 ^ 32
with_byte state byte small few = xor_of_32 state byte small (omega arith)

pub after_small : (state : ℕ) (bytes : List ℕ) → state < 2 ^ 32 → AreBytes bytes → after state bytes < 2 ^ 32
after_small state [] small are = small
after_small state (byte ∷ bytes) small are = after_small (times 8 (bit_xor state byte)) bytes (times_small 8 (bit_xor state byte) (with_byte state byte small are.0)) are.1

-- one byte more leads from two states to two
one_step : (a b x y : ℕ) → a < 2 ^ 32 → b < 2 ^ 32 → x < 256 → y < 256 → times 8 (bit_xor a x) ≡ times 8 (bit_xor b y) → bit_xor a x ≡ bit_xor b y
one_step a b x y small small' few few' e = one_times 8 (bit_xor a x) (bit_xor b y) (with_byte a x small few) (with_byte b y small' few') e

one_after : (a b : ℕ) (bytes : List ℕ) → a < 2 ^ 32 → b < 2 ^ 32 → AreBytes bytes → after a bytes ≡ after b bytes → a ≡ b
one_after a b [] small small' are e = e
one_after a b (byte ∷ bytes) small small' are e =
    let next = λ (s : ℕ). times 8 (bit_xor s byte) in
    let steps : next a ≡ next b = one_after (next a) (next b) bytes (times_small 8 _ (with_byte a byte small are.0)) (times_small 8 _ (with_byte b byte small' are.0)) are.1 e in
    same_right a b byte (one_step a b byte byte small small' are.0 are.0 steps)

after_append : (state : ℕ) (a b : List ℕ) → after state (a ++ b) ≡ after (after state a) b
after_append state [] b = refl
after_append state (byte ∷ a) b = after_append (times 8 (bit_xor state byte)) a b

pub bytes_of : (a b : List ℕ) → AreBytes (a ++ b) → AreBytes a × AreBytes b
bytes_of [] b are = (tt, are)
bytes_of (byte ∷ a) b are = let s = bytes_of a b are.1 in ((are.0, s.0), s.1)

pub one_byte : (front back : List ℕ) (was is : ℕ) → AreBytes (front ++ was ∷ is ∷ back) → sum (front ++ was ∷ back) ≡ sum (front ++ is ∷ back) → was ≡ is
unfolding sum
one_byte front back was is are e =
    let split = bytes_of front (was ∷ is ∷ back) are in
    let state = after 4294967295 front in
    let small : state < 2 ^ 32 = after_small 4294967295 front (omega arith) split.0 in
    let ends : after state (was ∷ back) ≡ after state (is ∷ back) = sym (after_append 4294967295 front (was ∷ back)) ∙ same_right (after 4294967295 (front ++ was ∷ back)) (after 4294967295 (front ++ is ∷ back)) 4294967295 e ∙ after_append 4294967295 front (is ∷ back) in
    let few : was < 256 = split.1.0 in
    let few' : is < 256 = split.1.1.0 in
    let steps = one_after (times 8 (bit_xor state was)) (times 8 (bit_xor state is)) back (times_small 8 _ (with_byte state was small few)) (times_small 8 _ (with_byte state is small few')) split.1.1.1 ends in
    same_left state was is (one_step state state was is small small few few' steps)

pub sum_small : (bytes : List ℕ) → AreBytes bytes → sum bytes < 2 ^ 32
unfolding sum
sum_small bytes are = xor_of_32 (after 4294967295 bytes) 4294967295 (after_small 4294967295 bytes (omega arith) are) (omega arith)
