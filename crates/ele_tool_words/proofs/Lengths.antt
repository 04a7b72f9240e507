-- Lengths of time: each word spells one at most.
use Rattle.std.proofs.Common.{◌≡◌, ℕ, ◌*◌, ◌^◌, ◌<◌, ◌≤◌, List, [], ◌∷◌, ◌++◌, length, length-append, Option, Some, inl, inr, refl, sym, ap, subst, ◌∙◌, arith}
use Rattle.std.specs.Str.Parse.{AllDigits, digits_value}
use Rattle.std.specs.Char.{digit_value}
use Rattle.std.proofs.lemmas.Bool.Decides.{nat_tests}
use Rattle.std.proofs.lemmas.Fmt.{decimal_injective, decimal_nonempty, digits_decimal}
use Rattle.std.proofs.lemmas.Option.{same_Some}
use Rattle.std.proofs.lemmas.Str.Parse.{IsNumeralModel}
use Rattle.ele_moment.specs.Number.{SpellsNumber}
use Rattle.ele_tool_words.specs.Length.{IsCountOf, SpellsLength, unit_of}

own : IsNumeralModel (AllDigits 10) (digits_value 10)
own = record { to = λ ds h. h; from = λ ds h. h; same = λ ds h. refl }

-- words of a last letter are one word if they are equal
pub snoc_same : (xs ys : List ℕ) (a b : ℕ) → xs ++ a ∷ [] ≡ ys ++ b ∷ [] → (xs ≡ ys) × (a ≡ b)
snoc_same [] [] a b e = grind arith
snoc_same [] (y ∷ []) a b e = absurd (cc)
snoc_same [] (y ∷ z ∷ ys) a b e = absurd (cc)
snoc_same (x ∷ []) [] a b e = absurd (cc)
snoc_same (x ∷ z ∷ xs) [] a b e = absurd (cc)
snoc_same (x ∷ xs) (y ∷ ys) a b e =
    let rest : xs ++ a ∷ [] ≡ ys ++ b ∷ [] = cc in
    let first : x ≡ y = cc in
    let same = snoc_same xs ys a b rest in
    (grind (arith, first, same), same.1)

last_digit : (xs : List ℕ) (c : ℕ) → AllDigits 10 (xs ++ c ∷ []) → digit_value c < 10
last_digit [] c h = h.0
last_digit (x ∷ xs) c h = last_digit xs c h.1

unit_high : (letter unit : ℕ) → unit_of letter ≡ Some unit → 10 ≤ digit_value letter
unit_high letter unit is = grind (arith, nat_tests)

-- a number doesn't end with the letter of a unit
pub no_number : (number : List ℕ) (letter unit n : ℕ) → unit_of letter ≡ Some unit → SpellsNumber (number ++ letter ∷ []) n → ⊥
no_number number letter unit n unit_is is =
    let digits : AllDigits 10 (number ++ letter ∷ []) = subst (AllDigits 10) (sym is.digits) (digits_decimal own n is.fits) in
    omega (arith, unit_high letter unit unit_is, last_digit number letter digits)

-- no byte spells no length
pub no_length : (word : List ℕ) (seconds : ℕ) → length word ≡ 0 → SpellsLength word seconds → ⊥
no_length word seconds none is = elim is.form [
  | inl number ↦ omega (arith, none, ap length number.digits, decimal_nonempty seconds number.fits)
  | inr units ↦ omega (arith, none, ap length units.text, length-append units.number (units.letter ∷ []))
]

-- a number of units in front of the letter is all that a word with that letter spells
pub in_units : (word number : List ℕ) (letter unit : ℕ) (r : Option ℕ) → word ≡ number ++ letter ∷ [] → unit_of letter ≡ Some unit
    → ((seconds : ℕ) → IsCountOf number unit seconds → seconds < 2 ^ 64 → r ≡ Some seconds) → (seconds : ℕ) → SpellsLength word seconds → r ≡ Some seconds
in_units word number letter unit r text unit_is only seconds is = elim is.form [
  | inl plain ↦ absurd (no_number number letter unit seconds unit_is (subst (λ (w : List ℕ). SpellsNumber w seconds) text plain))
  | inr units ↦
      let same = snoc_same units.number number units.letter letter (sym units.text ∙ text) in
      let unit_same : units.unit ≡ unit = same_Some units.unit unit (sym units.unit_is ∙ ap unit_of same.1 ∙ unit_is) in
      only seconds (subst (λ (u : ℕ). IsCountOf number u seconds) unit_same (subst (λ (n : List ℕ). IsCountOf n units.unit seconds) same.0 units.worth)) is.fits
]

-- a word spells one length
pub one_length : (word : List ℕ) (a b : ℕ) → SpellsLength word a → SpellsLength word b → a ≡ b
one_length word a b p q = elim p.form [
  | inl plain ↦ elim q.form [
    | inl other ↦ decimal_injective a b plain.fits other.fits (sym plain.digits ∙ other.digits)
    | inr units ↦ absurd (no_number units.number units.letter units.unit a units.unit_is (subst (λ (w : List ℕ). SpellsNumber w a) units.text plain))
  ]
  | inr units ↦ elim q.form [
    | inl plain ↦ absurd (no_number units.number units.letter units.unit b units.unit_is (subst (λ (w : List ℕ). SpellsNumber w b) units.text plain))
    | inr other ↦
        let same = snoc_same units.number other.number units.letter other.letter (sym units.text ∙ other.text) in
        let unit_same : units.unit ≡ other.unit = same_Some units.unit other.unit (sym units.unit_is ∙ ap unit_of same.1 ∙ other.unit_is) in
        let count_same : units.worth.count ≡ other.worth.count = decimal_injective units.worth.count other.worth.count units.worth.number_is.fits other.worth.number_is.fits (sym units.worth.number_is.digits ∙ same.0 ∙ other.worth.number_is.digits) in
        units.worth.worth ∙ ap (λ (n : ℕ). n * units.unit) count_same ∙ ap (λ (u : ℕ). other.worth.count * u) unit_same ∙ sym other.worth.worth
  ]
]
