-- The printed date and time of day of each moment are those of the moment.
use Rattle.std.proofs.Common.{◌≡◌, ℕ, zero, suc, ◌+◌, ◌/◌, ◌%◌, ◌<◌, ◌≤◌, pos, true, false, cond, inl, inr, refl, sym, ap, subst, ◌∙◌, arith, rules}
use Rattle.std.proofs.lemmas.Bool.Decides.{nat_tests}
use Rattle.std.proofs.lemmas.Int.{ints}
use Rattle.std.proofs.lemmas.Bool.{cases_lt}
use Rattle.std.specs.Prelude.{nat_lt}
use Rattle.jiff_core.specs.Calendar.{days_in_month}
use Rattle.jiff_core.proofs.SignedLemmas.{signed_arith}
use Rattle.jiff_core.proofs.CalendarLemmas.{days_in_month_bounds}
use Rattle.jiff_core.proofs.StandardFacts.{known_days}
use Rattle.jiff_core.proofs.DateLemmas.{days_from_civil-day, days_from_civil-max, days_from_civil-next_month, days_from_civil-next_year}
use Rattle.ele_moment.specs.Day.{IsDay, IsDayNumber}
use Rattle.ele_moment.specs.Last.{last_moment}
use Rattle.ele_moment.specs.Timestamp.{SpellsTimestamp}
use Rattle.ele_forecast_text.specs.Stamp.{Date, date_of, day_after, stamp_of}

-- the date is the day of that number
record IsThere (n : ℕ) (date : Date) : Type 0 where
  day : IsDay date.0 date.1 date.2
  number : IsDayNumber date.0 date.1 date.2 n

-- a day within a month
within : (y m d n : ℕ) → IsDay y m d → IsDayNumber y m d n → d < days_in_month (pos y) m → IsThere (suc n) (y, m, d + 1)
within y m d n is number lt =
    let next = days_from_civil-day (pos y) m d (d + 1) is.day_in.0 (omega arith) in
    record { day = record { year_in = is.year_in; month_in = is.month_in; day_in = (omega arith, omega (arith, lt)) }; number = omega (arith, signed_arith, ints, next, number) }

-- the first of a month
month : (y m d n : ℕ) → IsDay y m d → IsDayNumber y m d n → d ≡ days_in_month (pos y) m → m < 12 → IsThere (suc n) (y, m + 1, 1)
month y m d n is number last lt =
    let next = days_from_civil-next_month (pos y) m d is.month_in.0 last in
    let long = days_in_month_bounds (pos y) (m + 1) in
    record { day = record { year_in = is.year_in; month_in = (omega arith, omega (arith, lt)); day_in = (omega arith, omega (arith, long.1)) }; number = omega (arith, signed_arith, ints, next, number) }

-- the last day is that of 9999-12-31
too_late : (n : ℕ) → suc n ≤ 2932896 → IsDayNumber 9999 12 31 n → ⊥
too_late n fits number =
    let last = days_from_civil-max in
    let same : pos n ≡ pos 2932896 = sym number ∙ last in
    omega (arith, ints, same, fits)

below : {a b : ℕ} → nat_lt a b ≡ false → b ≤ a
below {a} {b} e = grind (arith, nat_tests)

-- the first of a year
year : (y n : ℕ) → suc n ≤ 2932896 → IsDay y 12 31 → IsDayNumber y 12 31 n → IsThere (suc n) (y + 1, 1, 1)
year y n fits is number =
    let next = days_from_civil-next_year (pos y) (pos (y + 1)) (search rules) (omega (arith, signed_arith, ints)) in
    let long = days_in_month_bounds (pos (y + 1)) 1 in
    let early : y + 1 ≤ 9999 = elim (cases_lt y 9999) [
      | inl lt ↦ omega (arith, lt)
      | inr ge ↦ let last : y ≡ 9999 = omega (arith, ge, is.year_in.1) in absurd (too_late n fits (subst (λ (x : ℕ). IsDayNumber x 12 31 n) last number))
    ] in
    record { day = record { year_in = (omega (arith, is.year_in.0), early); month_in = (omega arith, omega arith); day_in = (omega arith, omega (arith, long.1)) }; number = omega (arith, signed_arith, ints, next, number) }

step : (n : ℕ) (date : Date) → suc n ≤ 2932896 → IsThere n date → IsThere (suc n) (day_after date)
step n date fits is =
    let days = days_in_month (pos date.0) date.1 in
    elim (nat_lt date.2 days) as (λ b. nat_lt date.2 days ≡ b → IsThere (suc n) (cond b (date.0, date.1, date.2 + 1) (cond (nat_lt date.1 12) (date.0, date.1 + 1, 1) (date.0 + 1, 1, 1)))) [
      | true ↦ λ e. within date.0 date.1 date.2 n is.day is.number (grind (arith, nat_tests))
      | false ↦ λ e. let last : date.2 ≡ days = omega (arith, below e, is.day.day_in.1) in
          elim (nat_lt date.1 12) as (λ b. nat_lt date.1 12 ≡ b → IsThere (suc n) (cond b (date.0, date.1 + 1, 1) (date.0 + 1, 1, 1))) [
            | true ↦ λ f. month date.0 date.1 date.2 n is.day is.number last (grind (arith, nat_tests))
            | false ↦ λ f. let december : date.1 ≡ 12 = omega (arith, below f, is.day.month_in.1) in
                let long : date.2 ≡ 31 = last ∙ ap (days_in_month (pos date.0)) december in
                year date.0 n fits
                (subst (λ (d : ℕ). IsDay date.0 12 d) long (subst (λ (m : ℕ). IsDay date.0 m date.2) december is.day))
                (subst (λ (d : ℕ). IsDayNumber date.0 12 d n) long (subst (λ (m : ℕ). IsDayNumber date.0 m date.2 n) december is.number))
          ] refl
    ] refl

there : (n : ℕ) → n ≤ 2932896 → IsThere n (date_of n)
unfolding date_of
there zero fits = record { day = record { year_in = (omega arith, omega arith); month_in = (omega arith, omega arith); day_in = (omega arith, omega arith) }; number = known_days.0 }
there (suc n) fits = step n (date_of n) fits (there n (omega (arith, fits)))

-- the word of each moment is its date and time of day
pub stamps : (m : ℕ) → m ≤ last_moment → SpellsTimestamp (stamp_of m) m
unfolding stamp_of
stamps m fits =
    let is = there (m / 86400) (omega (arith, fits)) in
    record {
      fields = record { year = (date_of (m / 86400)).0; month = (date_of (m / 86400)).1; day = (date_of (m / 86400)).2; hour = m % 86400 / 3600; minute = m % 86400 / 60 % 60; second = m % 86400 % 60 };
      is = record { date = is.day; hour = omega arith; minute = omega arith; second = omega arith };
      text = refl;
      worth = (m / 86400, is.number, omega arith);
    }
