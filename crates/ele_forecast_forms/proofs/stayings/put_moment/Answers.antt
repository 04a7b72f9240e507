use Rattle.std.proofs.Common.{arith}
use Rattle.ele_forecast_forms.specs.Compared.{plan_staying}
use Rattle.ele_output.proofs.Lists.{list_done, list_more}
use Rattle.ele_forecast_forms.proofs.stayings.put_moment.Goals as goal

pub loop-plan-preserved : goal.loop-plan-preserved
loop-plan-preserved g c =
    list_more (plan_staying c.args.details.now c.args.place) c.args.plans.now c.loop-plan.plan-index c.plan-item.result (omega arith) c.plan-item.is c.loop-plan.invariant c.put_plan.ensures

pub returns : goal.returns
returns g c = list_done (plan_staying c.args.details.now c.args.place) c.args.plans.now c.loop-plan.plan-index c.loop-plan-test.false c.loop-plan.invariant
