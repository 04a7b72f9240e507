use Rattle.std.proofs.Common.{arith}
use Rattle.ele_forecast_forms.specs.Compared.{policy_column}
use Rattle.ele_output.proofs.Known.{puts_then}
use Rattle.ele_output.proofs.Lists.{list_done, list_more}
use Rattle.ele_forecast_forms.proofs.compared.put_policies.Goals as goal

pub loop-plan-preserved : goal.loop-plan-preserved
loop-plan-preserved g c =
    list_more policy_column c.args.plans.now c.loop-plan.plan-index c.plan-item.result (omega arith) c.plan-item.is c.loop-plan.invariant (puts_then c.put.ensures (rw c.as_slice.ensures.value at c.put-in-loop-plan.ensures))

pub returns : goal.returns
returns g c = list_done policy_column c.args.plans.now c.loop-plan.plan-index c.loop-plan-test.false c.loop-plan.invariant
