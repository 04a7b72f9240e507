use Rattle.ele_forecast_forms.proofs.Steps.{zip_more}
use Rattle.ele_space.specs.Amounts.{IsAmount}
use Rattle.ele_space.proofs.amounts.amounts_of.Goals as goal

pub loop-plan-preserved : goal.loop-plan-preserved
loop-plan-preserved c =
    rw c.in_ok-push.ensures.items (zip_more (IsAmount c.args.closings.now c.args.sizes.now c.args.at) c.args.plans.now c.loop-plan.plan-index c.plan-item.result c.loop-plan.amounts.items c.in_ok-amount_of.field-0 c.loop-plan-test.true c.plan-item.is c.loop-plan.invariant c.in_ok-amount_of.ensures)
