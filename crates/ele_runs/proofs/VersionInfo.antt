-- Each moment has a date and a time of day, in text.
use Rattle.ele_runs.proofs.Basics.{◌≡◌, ℕ, zero, suc, ◌+◌, ◌<◌, ◌≤◌, List, refl, ap, subst, ◌∙◌, arith}
use Rattle.std.specs.Prelude.{◌/◌, ◌%◌, ℤ, pos, ◌+ℤ◌}
use Rattle.std.proofs.Math.Decide.{dec_lt}
use Rattle.jiff_core.specs.Calendar.{days_in_month}
use Rattle.jiff_core.proofs.CalendarLemmas.{day_count-epoch, days_from_civil-day_count, days_in_month_bounds}
use Rattle.jiff_core.proofs.DateLemmas.{days_from_civil-day, days_from_civil-max, days_from_civil-next_month, days_from_civil-next_year}
use Rattle.jiff_core.proofs.SignedLemmas.{signed_arith}
use Rattle.ele_moment.specs.Day.{IsDay, IsDayNumber}
use Rattle.ele_moment.specs.Last.{last_moment}
use Rattle.ele_moment.specs.Timestamp.{SpellsTimestamp, timestamp_text}
use Rattle.ele_moment.specs.declared.timestamp.Fields.{Fields}

-- a day of the calendar has this number
record HasDay (n : ℕ) : Type 0 where
  year : ℕ
  month : ℕ
  day : ℕ
  is : IsDay year month day
  number : IsDayNumber year month day n

moved : (n year m month d day : ℕ) → m ≡ month → d ≡ day → IsDayNumber year m d n → IsDayNumber year month day n
moved n year m month d day same also is = subst (λ (x : ℕ). IsDayNumber year month x n) also (subst (λ (x : ℕ). IsDayNumber year x d n) same is)

-- on the last day of a year the next year begins
next_year : (n year : ℕ) → 1970 ≤ year → year ≤ 9999 → n < 2932896 → IsDayNumber year 12 31 n → HasDay (n + 1)
next_year n year low high early is = elim (dec_lt year 9999) [
  | yes before ↦ record {
    year = year + 1;
    month = 1;
    day = 1;
    is = record { year_in = (omega (arith, low), omega (arith, before)); month_in = (omega arith, omega arith); day_in = (omega arith, omega (arith, days_in_month_bounds (pos (year + 1)) 1)) };
    number = days_from_civil-next_year (pos year) (pos (year + 1)) (omega (arith, signed_arith)) refl ∙ ap (λ (z : ℤ). z +ℤ pos 1) is;
  }
  | no after ↦ absurd (let last : IsDayNumber 9999 12 31 n = subst (λ (y : ℕ). IsDayNumber y 12 31 n) (omega (arith, high, after)) is in omega (arith, signed_arith, early, last, days_from_civil-max))
]

-- and on that of a month the next month
next_month : (n : ℕ) → (day : HasDay n) → day.day ≡ days_in_month (pos day.year) day.month → n < 2932896 → HasDay (n + 1)
next_month n day last early = elim (dec_lt day.month 12) [
  | yes before ↦ record {
    year = day.year;
    month = day.month + 1;
    day = 1;
    is = record { year_in = day.is.year_in; month_in = (omega arith, omega (arith, before)); day_in = (omega arith, omega (arith, days_in_month_bounds (pos day.year) (day.month + 1))) };
    number = days_from_civil-next_month (pos day.year) day.month day.day day.is.month_in.0 last ∙ ap (λ (z : ℤ). z +ℤ pos 1) day.number;
  }
  | no after ↦
      let twelve : day.month ≡ 12 = omega (arith, day.is.month_in.1, after) in
      next_year n day.year day.is.year_in.0 day.is.year_in.1 early (moved n day.year day.month 12 day.day 31 twelve (last ∙ ap (λ (m : ℕ). days_in_month (pos day.year) m) twelve) day.number)
]

next_day : (n : ℕ) → HasDay n → n < 2932896 → HasDay (n + 1)
next_day n day early = elim (dec_lt day.day (days_in_month (pos day.year) day.month)) [
  | yes before ↦ record {
    year = day.year;
    month = day.month;
    day = day.day + 1;
    is = record { year_in = day.is.year_in; month_in = day.is.month_in; day_in = (omega arith, omega (arith, before)) };
    number = omega (arith, signed_arith, day.number, days_from_civil-day (pos day.year) day.month day.day (day.day + 1) day.is.day_in.0 (omega arith));
  }
  | no after ↦ next_month n day (omega (arith, day.is.day_in.1, after)) early
]

has_day : (n : ℕ) → n ≤ 2932896 → HasDay n
has_day zero le = record {
  year = 1970;
  month = 1;
  day = 1;
  is = record { year_in = (omega arith, omega arith); month_in = (omega arith, omega arith); day_in = (omega arith, omega (arith, days_in_month_bounds (pos 1970) 1)) };
  number = omega (arith, signed_arith, days_from_civil-day_count (pos 1970) 1 1, day_count-epoch);
}
has_day (suc n) le = subst HasDay (omega arith) (next_day n (has_day n (omega (arith, le))) (omega (arith, le)))

-- so a moment has one, and a time of that day
pub some_stamp : (moment : ℕ) → moment ≤ last_moment → (stamp : List ℕ) × SpellsTimestamp stamp moment
some_stamp moment le =
    let day = has_day (moment / 86400) (omega (arith, le)) in
    let fields : Fields = record { year = day.year; month = day.month; day = day.day; hour = moment % 86400 / 3600; minute = moment % 86400 / 60 % 60; second = moment % 86400 % 60 } in (
      timestamp_text fields,
      record {
        fields = fields;
        is = record { date = day.is; hour = omega arith; minute = omega arith; second = omega arith };
        text = refl;
        worth = (moment / 86400, day.number, omega arith);
      },
    )
