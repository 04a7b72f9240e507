-- Months of the calendar, which are counted from January 1970.
use Rattle.std.specs.Prelude.{ℕ, ◌+◌, ◌/◌, ◌%◌, pos, unsigned_abs}
use Rattle.jiff_core.specs.Calendar.{days_from_civil}

-- the days from 1970-01-01 to the first of the month
abbrev pub month_start : ℕ → ℕ
month_start month = unsigned_abs (days_from_civil (pos (1970 + month / 12)) (month % 12 + 1) 1)
