use Rattle.ele_forecast_text.proofs.Plans.{plans_more}
use Rattle.ele_forecast_text.proofs.plan.plans_of.Goals as goal

pub loop-asked-preserved : goal.loop-asked-preserved
loop-asked-preserved c =
    rw c.in_ok-push.ensures.items (plans_more c.args.closings.now c.args.moments.now c.args.policies.now c.loop-asked.asked-index c.asked-item.result c.loop-asked.plans.items c.in_ok-plan_of.field-0 c.loop-asked-test.true c.asked-item.is c.loop-asked.invariant c.in_ok-plan_of.ensures)
