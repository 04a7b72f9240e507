-- Words of numbers and moments: each one number or one moment, or none.
use Rattle.ele_script.proofs.Basics.{◌≡◌, ℕ, ◌^◌, ◌<◌, ◌≤◌, ◌⊎◌, List, length, sym, ap, subst, ◌∙◌, arith, inl, inr, decimal, decimal_injective, decimal_is_IsNumeral, digits_value, nat_tests, same_Some, dec_le, dec_lt}
use Rattle.ele_script.proofs.Prelude.{SpellsNumber, SpellsMoment, SpellsTimestamp}
use Rattle.std.proofs.lemmas.Int.{ints}
use Rattle.ele_moment.specs.Spelled.{last_moment}
use Rattle.ele_moment.proofs.Timestamps.{fields_again}
use Rattle.ele_moment.proofs.Moments.{short_number}
use Rattle.ele_script.proofs.Dates.{dec_timestamp}
use Rattle.ele_script.proofs.Decided.{dec_same}

-- a word spells at most one number
pub one_number : (word : List ℕ) (m n : ℕ) → SpellsNumber word m → SpellsNumber word n → m ≡ n
one_number word m n a b = decimal_injective m n a.fits b.fits (sym a.digits ∙ b.digits)

one_timestamp : (word : List ℕ) (m n : ℕ) → SpellsTimestamp word m → SpellsTimestamp word n → m ≡ n
one_timestamp word m n a b = grind (arith, nat_tests, same_Some, fields_again, ints)

no_both : {P : Type 0} (word : List ℕ) (m n : ℕ) → m ≤ last_moment → SpellsNumber word m → SpellsTimestamp word n → P
no_both word m n le a b =
    let long : length word ≡ 20 = ap length b.text in
    absurd (omega (arith, short_number word m le a, long))

pub one_moment : (word : List ℕ) (m n : ℕ) → SpellsMoment word m → SpellsMoment word n → m ≡ n
one_moment word m n a b =
    elim a.form [
      | inl number ↦ elim b.form [ inl other ↦ one_number word m n number other | inr stamp ↦ no_both word m n a.in_range number stamp ]
      | inr stamp ↦ elim b.form [ inl number ↦ no_both word n m b.in_range number stamp | inr other ↦ one_timestamp word m n stamp other ]
    ]

value_of : (word : List ℕ) (n : ℕ) → SpellsNumber word n → digits_value 10 word ≡ n
value_of word n is = ap (digits_value 10) is.digits ∙ (decimal_is_IsNumeral n is.fits).1

-- a word spells the number of its digits, or none
pub dec_number : (word : List ℕ) → Dec ((n : ℕ) × SpellsNumber word n)
dec_number word = elim (dec_lt (digits_value 10 word) (2 ^ 64)) [
  | no large ↦ no (λ h. large (subst (λ n. n < 2 ^ 64) (sym (value_of word h.0 h.1)) h.1.fits))
  | yes fits ↦ elim (dec_same word (decimal (digits_value 10 word))) [
    | no other ↦ no (λ h. other (h.1.digits ∙ ap decimal (sym (value_of word h.0 h.1))))
    | yes digits ↦ yes (digits_value 10 word, record { fits = fits; digits = digits })
  ]
]

dec_in_range : (word : List ℕ) (m : ℕ) → SpellsNumber word m ⊎ SpellsTimestamp word m → ((n : ℕ) → SpellsMoment word n → n ≡ m) → Dec ((n : ℕ) × SpellsMoment word n)
dec_in_range word m form only = elim (dec_le m last_moment) [
  | yes in_range ↦ yes (m, record { in_range = in_range; form = form })
  | no late ↦ no (λ h. late (subst (λ n. n ≤ last_moment) (only h.0 h.1) h.1.in_range))
]

-- and a moment or none
pub dec_moment : (word : List ℕ) → Dec ((m : ℕ) × SpellsMoment word m)
dec_moment word = elim (dec_timestamp word) [
  | yes stamp ↦ dec_in_range word stamp.0 (inr stamp.1) (λ n h. elim h.form [
    | inl number ↦ no_both word n stamp.0 h.in_range number stamp.1
    | inr other ↦ one_timestamp word n stamp.0 other stamp.1
  ])
  | no unstamped ↦ elim (dec_number word) [
    | yes number ↦ dec_in_range word number.0 (inl number.1) (λ n h. elim h.form [
      | inl other ↦ one_number word n number.0 other number.1
      | inr stamp ↦ absurd (unstamped (n, stamp))
    ])
    | no unnumbered ↦ no (λ h. elim h.1.form [ inl number ↦ unnumbered (h.0, number) | inr stamp ↦ unstamped (h.0, stamp) ])
  ]
]
