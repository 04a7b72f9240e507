use Rattle.std.proofs.Common.{arith}
use Rattle.ele_forecast_forms.specs.Compared.{due_column}
use Rattle.ele_output.proofs.Known.{puts_then}
use Rattle.ele_output.proofs.Lists.{list_done, list_more}
use Rattle.ele_forecast_text.proofs.Lines.{put_start}
use Rattle.ele_forecast_forms.proofs.compared.put_columns.Goals as goal

pub loop-plan-init : goal.loop-plan-init
loop-plan-init g c =
    put_start (puts_then (rw c.number.view_is at c.put_number.ensures) (puts_then c.put_details.ensures (puts_then (rw c.stamp_of.ensures at c.put_word.ensures) c.put_moment.ensures)))

pub loop-plan-preserved : goal.loop-plan-preserved
loop-plan-preserved g c =
    list_more (due_column c.args.forecast.now.number) c.args.plans.now c.loop-plan.plan-index c.plan-item.result (omega arith) c.plan-item.is c.loop-plan.invariant (rw (c.due.ensures, c.as_slice.ensures.value) at c.put_moment-in-loop-plan.ensures)

pub returns : goal.returns
returns g c = list_done (due_column c.args.forecast.now.number) c.args.plans.now c.loop-plan.plan-index c.loop-plan-test.false c.loop-plan.invariant
