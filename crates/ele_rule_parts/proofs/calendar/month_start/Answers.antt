use Rattle.std.proofs.Common.{arith, ◌≡◌, ◌+◌, ◌-◌, ◌/◌, ◌%◌, pos, ◌≤ℤ◌, ap, sym}
use Rattle.std.specs.Prelude.{unsigned_abs}
use Rattle.std.proofs.lemmas.Int.{ints}
use Rattle.ele_moment.proofs.Days.{day_from_1970, IsDayNumber-from_date}
use Rattle.ele_rule_parts.proofs.calendar.month_start.Goals as goal

pub overflow_sub-result : goal.overflow_sub-result
overflow_sub-result c =
    let v = c.in-Ok.ensures.value in
    let year : pos 1970 ≤ℤ c.in-Ok.date.year = rw v.0 (omega (arith, ints)) in
    let n = day_from_1970 c.in-Ok.date year in
    let k = rw c.to_plain.ensures at c.days_since_min.ensures.value in
    omega (arith, ints, n, k)

pub returns-clause-start : goal.returns-clause-start
returns-clause-start c =
    let v = c.in-Ok.ensures.value in
    let year : c.in-Ok.date.year ≡ pos (1970 + c.args.month / 12) = omega (arith, ints, v.0) in
    let n = day_from_1970 c.in-Ok.date (rw year (omega (arith, ints))) in
    let k = rw c.to_plain.ensures at c.days_since_min.ensures.value in
    let month : c.in-Ok.date.month ≡ c.args.month % 12 + 1 = omega (arith, ints, v.1) in
    let day : c.in-Ok.date.day ≡ 1 = omega (arith, ints, v.2) in
    let number = IsDayNumber-from_date c.in-Ok.date (1970 + c.args.month / 12) (c.days_since_min.result - 4371587) year (omega (arith, ints, n, k)) in
    let start = rw (month, day) at number in
    sym (ap unsigned_abs start)
