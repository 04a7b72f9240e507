use Rattle.ele_checkpoint.proofs.Loops.{goes_on, ends, is_done}
use Rattle.ele_checkpoint.specs.PartsRead.{items_at}
use Rattle.ele_journal.proofs.items.items_of.Goals as goal

pub returns-in-Err : goal.returns-in-Err
returns-in-Err g c = ends g.T.Item.reading c.in-Err.stop c.loop.items.items c.args.count c.loop.counter c.loop.rest.now (items_at g.T.Item.reading c.args.count c.args.bytes.now) c.loop-test.true c.in-Err.ensures c.loop.invariant

pub loop-preserved : goal.loop-preserved
loop-preserved g c = rw c.in_ok-push.ensures.items (goes_on g.T.Item.reading c.loop.items.items c.args.count c.loop.counter c.loop.rest.now c.in-Ok.found.0 c.in-Ok.found.1.now (items_at g.T.Item.reading c.args.count c.args.bytes.now) c.loop-test.true c.in-Ok.ensures c.loop.invariant)

pub returns : goal.returns
returns g c = is_done g.T.Item.reading c.loop.items.items c.args.count c.loop.counter c.loop.rest.now (items_at g.T.Item.reading c.args.count c.args.bytes.now) c.loop-test.false c.loop.invariant
