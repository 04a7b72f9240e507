use Rattle.ele_well_formed.proofs.Words.{arith, ◌<◌}
use Rattle.ele_well_formed.proofs.Rows.{later_next}
use Rattle.ele_well_formed.proofs.numbered.first_misplaced.Goals as goal

pub loop-place-preserved : goal.loop-place-preserved
loop-place-preserved g c =
    let number = g.T.Numbered.number in
    later_next (λ x y. number x < number y) c.args.rows.now c.loop-place.place c.index-rows-place.result c.index-rows-place-in-loop-place.result
    (record { within = omega (arith, c.loop-place-test.true, c.saturating_sub-place-end.ensures); is = c.index-rows-place.is })
    (record { within = omega (arith, c.loop-place-test.true, c.saturating_sub-place-end.ensures); is = c.index-rows-place-in-loop-place.is })
    (λ z lt. omega (arith, lt, c.number-earlier.ensures, c.number.ensures, c.if-number-earlier.false))
    (omega (arith, c.number-earlier.ensures, c.number.ensures, c.if-number-earlier.false))
    c.loop-place.invariant
