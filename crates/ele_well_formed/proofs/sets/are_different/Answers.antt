use Rattle.std.proofs.lemmas.List.{get_or_default}
use Rattle.ele_well_formed.proofs.Words.{arith, eqb, false, get_or, length, list_any, nat_tests, take, true, ℕ, ◌<◌, ◌==◌, ◌≡◌}
use Rattle.ele_well_formed.proofs.Rows.{IsAt, any_more, apart_more, apart_wrong, misplaced_not}
use Rattle.ele_well_formed.proofs.sets.are_different.Goals as goal

pub returns-then-not-branch : goal.returns-then-not-branch
returns-then-not-branch c =
    let xs = c.args.numbers.now in
    let at = c.loop-at.at in
    let x = get_or xs at 0 in
    let within : at < length xs = omega arith in
    let here : IsAt xs at x = record { within = within; is = get_or_default xs at 0 x within } in
    let any : list_any (λ n. n == x) (take at xs) ≡ true = grind (arith, nat_tests, c.in_ok-insert.ensures.added, c.if-not-branch.true, c.loop-at.invariant.seen x) in
    let wrong = misplaced_not (λ (m n : ℕ). (m == n) ≡ false) xs at (apart_wrong eqb xs at x here any) in
    ((λ t. absurd (grind arith)), λ later. absurd (wrong later))

pub loop-at-preserved : goal.loop-at-preserved
loop-at-preserved c =
    let xs = c.args.numbers.now in
    let at = c.loop-at.at in
    let x = get_or xs at 0 in
    let within : at < length xs = omega arith in
    let here : IsAt xs at x = record { within = within; is = get_or_default xs at 0 x within } in
    let none : list_any (λ n. n == x) (take at xs) ≡ false = grind (arith, nat_tests, c.in_ok-insert.ensures.added, c.if-not-branch.false, c.loop-at.invariant.seen x) in
    record { seen = λ q. grind (arith, nat_tests, c.in_ok-insert.ensures.updates.0 q, c.loop-at.invariant.seen q, any_more (λ n. n == q) xs at x here); apart = apart_more eqb xs at x here none c.loop-at.invariant.apart }
