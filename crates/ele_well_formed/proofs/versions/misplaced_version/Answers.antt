use Rattle.ele_well_formed.proofs.Words.{ArePlaced, IsSpan, all-at, arith}
use Rattle.ele_well_formed.proofs.Placed.{placed_on}
use Rattle.ele_well_formed.proofs.Rows.{IsAt, later_next, there}
use Rattle.ele_well_formed.proofs.versions.misplaced_version.Goals as goal

pub loop-place-preserved : goal.loop-place-preserved
loop-place-preserved c =
    let rows = c.args.rows.now in
    let y = c.index-rows-place.result in
    let x = c.index-rows-place-in-loop-place.result in
    let before : IsAt rows c.loop-place.place y = record { within = omega (arith, c.loop-place-test.true, c.saturating_sub-place-end.ensures); is = c.index-rows-place.is } in
    let next : ArePlaced y x = grind (arith, c.are_placed.ensures, c.if-not-are_placed.false) in
    let span : IsSpan y = all-at IsSpan rows c.loop-place.place y (there rows c.loop-place.place y before) c.requires in
    later_next ArePlaced rows c.loop-place.place y x before
    (record { within = omega (arith, c.loop-place-test.true, c.saturating_sub-place-end.ensures); is = c.index-rows-place-in-loop-place.is })
    (λ z. placed_on z y x span next) next c.loop-place.invariant
