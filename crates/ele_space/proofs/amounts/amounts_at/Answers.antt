use Rattle.ele_space.proofs.Rows.{amounts_more}
use Rattle.ele_space.proofs.amounts.amounts_at.Goals as goal

pub loop-moment-preserved : goal.loop-moment-preserved
loop-moment-preserved c =
    rw c.in_ok-push.ensures.items (amounts_more c.args.moments.now c.loop-moment.moment-index c.args.closings.now c.args.sizes.now c.args.plans.now c.loop-moment.rows.items _ c.loop-moment.invariant c.loop-moment-test.true c.moment-item.is c.in_ok-amounts.ensures)
