use Rattle.std.proofs.Common.{arith}
use Rattle.ele_forecast_text.specs.declared.plan.Plan.{Plan}
use Rattle.ele_forecast_forms.specs.Csv.{fate_fields}
use Rattle.ele_forecast_forms.specs.Parts.{forecast_of}
use Rattle.ele_output.proofs.Known.{puts_then}
use Rattle.ele_output.proofs.Lists.{list_done, list_more}
use Rattle.ele_forecast_text.proofs.Lines.{put_next, put_start}
use Rattle.ele_forecast_forms.proofs.csv.put_fields.Goals as goal

pub loop-plan-init : goal.loop-plan-init
loop-plan-init g c =
    put_next (put_next (put_start (puts_then (rw c.number.view_is at c.put_number.ensures) (puts_then c.put_label.ensures c.put_size.ensures))) c.put_moment.ensures) c.put_moment-2.ensures

pub loop-plan-preserved : goal.loop-plan-preserved
loop-plan-preserved g c =
    list_more (λ (plan : Plan). fate_fields plan.policy (forecast_of plan c.args.version.now.number)) c.args.plans.now c.loop-plan.plan-index c.plan-item.result (omega arith) c.plan-item.is c.loop-plan.invariant c.put_fate.ensures

pub returns : goal.returns
returns g c = list_done (λ (plan : Plan). fate_fields plan.policy (forecast_of plan c.args.version.now.number)) c.args.plans.now c.loop-plan.plan-index c.loop-plan-test.false c.loop-plan.invariant
