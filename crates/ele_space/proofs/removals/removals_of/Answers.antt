use Rattle.ele_forecast_forms.proofs.Steps.{zip_more}
use Rattle.ele_space.specs.Removals.{AreRemovals}
use Rattle.ele_space.proofs.removals.removals_of.Goals as goal

pub loop-plan-preserved : goal.loop-plan-preserved
loop-plan-preserved c =
    rw c.in_ok-push.ensures.items (zip_more AreRemovals c.args.plans.now c.loop-plan.plan-index c.plan-item.result c.loop-plan.removals.items _ c.loop-plan-test.true c.plan-item.is c.loop-plan.invariant c.in_ok-removals_under.ensures)
