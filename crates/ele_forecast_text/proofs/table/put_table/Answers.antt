use Rattle.std.proofs.Common.{arith}
use Rattle.ele_forecast_text.specs.Table.{detailed_line, staying_line}
use Rattle.ele_output.proofs.Known.{puts_then}
use Rattle.ele_output.proofs.Lists.{list_done, list_more}
use Rattle.ele_forecast_text.proofs.Lines.{list_more_then, list_past, put_start}
use Rattle.ele_forecast_text.proofs.table.put_table.Goals as goal

pub loop-forecast-init : goal.loop-forecast-init
loop-forecast-init g c =
    rw (c.as_slice-forecasts.ensures.value, c.as_slice-stayings.ensures.value) (put_start (puts_then c.put.ensures (puts_then c.put_headings.ensures c.put-2.ensures)))

pub loop-forecast-preserved : goal.loop-forecast-preserved
loop-forecast-preserved g c =
    list_more_then (detailed_line c.args.plan.now.policy c.args.details.now) c.as_slice-forecasts.result.now c.loop-forecast.forecast-index c.forecast-item.result _ (omega arith) c.forecast-item.is c.loop-forecast.invariant c.put_detailed.ensures

pub loop-staying-init : goal.loop-staying-init
loop-staying-init g c =
    list_past (detailed_line c.args.plan.now.policy c.args.details.now) c.as_slice-forecasts.result.now c.loop-forecast.forecast-index _ c.loop-forecast-test.false c.loop-forecast.invariant

pub loop-staying-preserved : goal.loop-staying-preserved
loop-staying-preserved g c =
    let line = puts_then c.put-in-loop-staying.ensures (puts_then (rw c.stamp_of.ensures at c.put-in-loop-staying-2.ensures) (rw c.as_slice.ensures.value at c.put_kept.ensures)) in
    list_more (staying_line c.args.details.now) c.as_slice-stayings.result.now c.loop-staying.staying-index c.staying-item.result (omega arith) c.staying-item.is c.loop-staying.invariant line

pub returns : goal.returns
returns g c =
    list_done (staying_line c.args.details.now) c.as_slice-stayings.result.now c.loop-staying.staying-index c.loop-staying-test.false c.loop-staying.invariant
