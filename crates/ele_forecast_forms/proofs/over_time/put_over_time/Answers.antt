use Rattle.std.proofs.Common.{arith}
use Rattle.ele_forecast_forms.specs.OverTime.{counts_line}
use Rattle.ele_output.proofs.Known.{puts_then}
use Rattle.ele_output.proofs.Lists.{list_done, list_more}
use Rattle.ele_forecast_text.proofs.Lines.{put_start}
use Rattle.ele_forecast_forms.proofs.over_time.put_over_time.Goals as goal

pub loop-row-init : goal.loop-row-init
loop-row-init g c = put_start (puts_then c.put.ensures (puts_then c.put_policies.ensures c.put-2.ensures))

pub loop-row-preserved : goal.loop-row-preserved
loop-row-preserved g c =
    list_more counts_line c.args.rows.now c.loop-row.row-index c.row-item.result (omega arith) c.row-item.is c.loop-row.invariant c.put_row.ensures

pub returns : goal.returns
returns g c = list_done counts_line c.args.rows.now c.loop-row.row-index c.loop-row-test.false c.loop-row.invariant
