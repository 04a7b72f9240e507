-- Words of dates and times of day: whether a word is one, and of which moment.
use Rattle.ele_script.proofs.Basics.{nat_tests, ◌≡◌, ℕ, ◌+◌, ◌*◌, ◌<◌, List, refl, sym, ap, subst, ◌∙◌, arith, Option, Some, None, same_Some, dec_lt}
use Rattle.ele_script.proofs.Prelude.{SpellsTimestamp}
use Rattle.std.specs.Prelude.{ℤ, pos, negsuc}
use Rattle.ele_moment.specs.Day.{IsDay, IsDayNumber}
use Rattle.ele_moment.specs.ReadFields.{fields_of}
use Rattle.ele_moment.specs.Timestamp.{IsTimestamp, IsWorth, second_of_day}
use Rattle.ele_moment.specs.declared.timestamp.Fields.{Fields}
use Rattle.ele_moment.proofs.Moments.{not_none}
use Rattle.ele_moment.proofs.Timestamps.{fields_again, fields_takes}
use Rattle.ele_script.proofs.Decided.{dec_in}

dec_day : (year month day : ℕ) → Dec (IsDay year month day)
dec_day year month day = elim (dec_in 1970 9999 year) [
  | no out ↦ no (λ is. out is.year_in)
  | yes year_in ↦ elim (dec_in 1 12 month) [
    | no out ↦ no (λ is. out is.month_in)
    | yes month_in ↦ elim (dec_in 1 _ day) [
      | no out ↦ no (λ is. out is.day_in)
      | yes day_in ↦ yes (record { year_in = year_in; month_in = month_in; day_in = day_in })
    ]
  ]
]

dec_fields : (fields : Fields) → Dec (IsTimestamp fields)
dec_fields fields = elim (dec_day fields.year fields.month fields.day) [
  | no out ↦ no (λ is. out is.date)
  | yes date ↦ elim (dec_lt fields.hour 24) [
    | no out ↦ no (λ is. out is.hour)
    | yes hour ↦ elim (dec_lt fields.minute 60) [
      | no out ↦ no (λ is. out is.minute)
      | yes minute ↦ elim (dec_lt fields.second 60) [
        | no out ↦ no (λ is. out is.second)
        | yes second ↦ yes (record { date = date; hour = hour; minute = minute; second = second })
      ]
    ]
  ]
]

dec_natural : (z : ℤ) → Dec ((n : ℕ) × (z ≡ pos n))
dec_natural (pos n) = yes (n, refl)
dec_natural (negsuc n) = no (λ h. let is = h.1 in cc)

dec_worth : (fields : Fields) → Dec ((m : ℕ) × IsWorth fields m)
dec_worth fields =
    let number : Dec ((n : ℕ) × IsDayNumber fields.year fields.month fields.day n) = dec_natural _ in
    elim number [
      | yes day ↦ yes (86400 * day.0 + second_of_day fields, (day.0, day.1, refl))
      | no none ↦ no (λ h. none (h.1.0, h.1.1))
    ]

short_month : (year month day : ℕ) → IsDay year month day → day < 100
short_month year month day is = grind (arith, nat_tests)

-- the fields of a word that spells a moment are read
again : (word : List ℕ) (m : ℕ) → (is : SpellsTimestamp word m) → fields_of word ≡ Some is.fields
again word m is =
    let date = is.is.date in
    ap fields_of is.text
    ∙ fields_again is.fields (omega (arith, date.year_in.1)) (omega (arith, date.month_in.1)) (short_month is.fields.year is.fields.month is.fields.day date) (omega (arith, is.is.hour)) (omega (arith, is.is.minute)) (omega (arith, is.is.second))

pub dec_timestamp : (word : List ℕ) → Dec ((m : ℕ) × SpellsTimestamp word m)
dec_timestamp word = go (fields_of word) refl where
  go : (o : Option Fields) → fields_of word ≡ o → Dec ((m : ℕ) × SpellsTimestamp word m)
  go None none = no (λ h. not_none word h.0 h.1 none)
  go (Some fields) some = elim (dec_fields fields) [
    | no out ↦ no (λ h. out (subst IsTimestamp (same_Some _ _ (sym (again word h.0 h.1) ∙ some)) h.1.is))
    | yes is ↦ elim (dec_worth fields) [
      | no none ↦ no (λ h. none (h.0, subst (λ fields. IsWorth fields h.0) (same_Some _ _ (sym (again word h.0 h.1) ∙ some)) h.1.worth))
      | yes worth ↦ yes (worth.0, record { fields = fields; is = is; text = fields_takes word fields some; worth = worth.1 })
    ]
  ]
