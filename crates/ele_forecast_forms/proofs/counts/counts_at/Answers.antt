use Rattle.ele_forecast_forms.specs.OverTime.{IsKeptCount}
use Rattle.ele_forecast_forms.proofs.Steps.{zip_more}
use Rattle.ele_forecast_forms.proofs.counts.counts_at.Goals as goal

pub loop-plan-preserved : goal.loop-plan-preserved
loop-plan-preserved c =
    rw c.in_ok-push.ensures.items (zip_more (IsKeptCount c.args.closings.now c.args.at) c.args.plans.now c.loop-plan.plan-index c.plan-item.result c.loop-plan.counts.items c.in_ok-count_at.field-0 c.loop-plan-test.true c.plan-item.is c.loop-plan.invariant c.in_ok-count_at.ensures)
