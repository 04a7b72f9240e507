use Rattle.std.proofs.Common.{arith}
use Rattle.ele_shared_history.proofs.Rows.{deals_more}
use Rattle.ele_shared_history.proofs.Shared.deal.Goals as goal

pub loop-preserved : goal.loop-preserved
loop-preserved g c =
    let d = deals_more c.args.self.now c.loop.all.items c.loop.last c.divide-next.result c.loop.invariant.0 c.divide-next.ensures.other.0 in
    (rw (c.push_reserved.ensures.items, c.replace-done.ensures.value, c.divide-next.ensures.unchanged, c.replace-done.ensures.after) d, omega arith, rw c.push_reserved.ensures.capacity c.loop.invariant.2)
