-- Which rows lie within a length of time before a moment.
use Rattle.std.specs.Prelude.{ℕ, ◌+◌, ◌-◌, ◌*◌, nat_lt, Bool, ◌||◌}
use Rattle.ele_rule_parts.specs.Months.{month_start}
use Rattle.ele_rule_parts.specs.declared.row.Row.{Row}
use Rattle.ele_rule_parts.specs.declared.part.Reach.{Reach}
use Rattle.ele_peer_rules.specs.declared.limit.Since.{Since}

-- the seconds of so many months before that one, as the same day of the month and the same time of day are apart, and a day
-- that the earlier month hasn't is one of the next
abbrev pub seconds_of_months : ℕ → ℕ → ℕ
seconds_of_months months month = 86400 * (month_start month - month_start (month - months))

-- the row is later than the moment that lies so far back; a reach of more months than passed since 1970 has all rows
abbrev pub is_within : Reach → Since → Row → Bool
is_within reach since row = nat_lt since.month reach.months || nat_lt since.moment (row.moment + seconds_of_months reach.months since.month + reach.seconds)
