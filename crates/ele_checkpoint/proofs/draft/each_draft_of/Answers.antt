use Rattle.ele_checkpoint.proofs.Loops.{goes_on, ends, is_done}
use Rattle.ele_checkpoint.specs.PartsRead.{items_at, draft_at}
use Rattle.ele_checkpoint.proofs.draft.each_draft_of.Goals as goal

pub returns-in-Err : goal.returns-in-Err
returns-in-Err c = ends (draft_at c.args.rows.now) c.in-Err.stop c.loop.made.items c.args.count c.loop.counter c.loop.rest.now (items_at (draft_at c.args.rows.now) c.args.count c.args.bytes.now) c.loop-test.true c.in-Err.ensures c.loop.invariant

pub loop-preserved : goal.loop-preserved
loop-preserved c = rw c.in_ok-push.ensures.items (goes_on (draft_at c.args.rows.now) c.loop.made.items c.args.count c.loop.counter c.loop.rest.now c.in-Ok.found.0 c.in-Ok.found.1.now (items_at (draft_at c.args.rows.now) c.args.count c.args.bytes.now) c.loop-test.true c.in-Ok.ensures c.loop.invariant)

pub returns : goal.returns
returns c = is_done (draft_at c.args.rows.now) c.loop.made.items c.args.count c.loop.counter c.loop.rest.now (items_at (draft_at c.args.rows.now) c.args.count c.args.bytes.now) c.loop-test.false c.loop.invariant
