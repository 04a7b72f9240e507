use Rattle.std.proofs.Common.{arith}
use Rattle.std.proofs.lemmas.Int.{ints}
use Rattle.ele_moment.proofs.Days.{year_from_1970, IsDay-from_date, IsDayNumber-from_date}
use Rattle.ele_rule_parts.proofs.calendar.date_of.Goals as goal

pub overflow_cast-result : goal.overflow_cast-result
overflow_cast-result c =
    let n = c.from_days_since_min-date.ensures in
    let year = year_from_1970 c.from_days_since_min-date.result (omega (arith, ints, n)) in
    (grind (arith, ints), grind (arith, ints))

pub returns-clause-day : goal.returns-clause-day
returns-clause-day c =
    let n = c.from_days_since_min-date.ensures in
    let year = year_from_1970 c.from_days_since_min-date.result (omega (arith, ints, n)) in
    IsDay-from_date c.from_days_since_min-date.result _ year (omega (arith, ints))

pub returns-clause-number : goal.returns-clause-number
returns-clause-number c =
    let n = c.from_days_since_min-date.ensures in
    let year = year_from_1970 c.from_days_since_min-date.result (omega (arith, ints, n)) in
    IsDayNumber-from_date c.from_days_since_min-date.result _ c.args.number (omega (arith, ints)) n
