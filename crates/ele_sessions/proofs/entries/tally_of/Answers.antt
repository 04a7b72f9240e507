use Rattle.std.proofs.Common.{arith, take}
use Rattle.std.proofs.lemmas.Bool.Decides.{nat_tests}
use Rattle.std.proofs.lemmas.List.{length-take, take_more}
use Rattle.ele_sessions.proofs.Counts.{reading-push}
use Rattle.ele_sessions.proofs.Restored.{reading_few}
use Rattle.ele_sessions.proofs.entries.tally_of.Goals as goal

pub add-requires-clause-fits : goal.add-requires-clause-fits
add-requires-clause-fits c =
    let hs = c.args.handles.now in
    let what = c.handle-item.result.reads in
    let i = c.loop-handle.handle-index in
    omega (arith, c.reserve.ensures.same what, c.loop-handle.invariant what, reading_few what (take i hs), length-take i hs)

pub loop-handle-preserved : goal.loop-handle-preserved
loop-handle-preserved c = λ what.
    let hs = c.args.handles.now in
    let i = c.loop-handle.handle-index in
    grind (arith, nat_tests, c.add.ensures what, c.reserve.ensures.same what, c.loop-handle.invariant what, take_more hs i c.handle-item.result c.loop-handle-test.true, reading-push what (take i hs) c.handle-item.result, c.handle-item.is)
