use Rattle.std.proofs.Common.{arith}
use Rattle.ele_forecast_text.specs.declared.plan.Plan.{Plan}
use Rattle.ele_forecast_forms.specs.Csv.{policy_headings}
use Rattle.ele_output.proofs.Lists.{list_done, list_more}
use Rattle.ele_forecast_text.proofs.Lines.{put_next, put_start}
use Rattle.ele_forecast_forms.proofs.csv.put_heading_fields.Goals as goal

pub loop-plan-init : goal.loop-plan-init
loop-plan-init g c =
    put_next (put_next (put_next (put_start c.put.ensures) c.put_part.ensures) c.put_part-2.ensures) c.put-2.ensures

pub loop-plan-preserved : goal.loop-plan-preserved
loop-plan-preserved g c =
    list_more (λ (plan : Plan). policy_headings plan.word.items) c.args.plans.now c.loop-plan.plan-index c.plan-item.result (omega arith) c.plan-item.is c.loop-plan.invariant (rw c.as_slice.ensures.value at c.put_policy_headings.ensures)

pub returns : goal.returns
returns g c = list_done (λ (plan : Plan). policy_headings plan.word.items) c.args.plans.now c.loop-plan.plan-index c.loop-plan-test.false c.loop-plan.invariant
