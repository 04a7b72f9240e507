use Rattle.std.proofs.Common.{arith}
use Rattle.ele_svg.specs.Rows.{version_drawn}
use Rattle.ele_output.proofs.Known.{puts_then}
use Rattle.ele_output.proofs.Lists.{list_done, list_more}
use Rattle.ele_svg.proofs.rows.put_versions.Goals as goal

pub loop-forecast-preserved : goal.loop-forecast-preserved
loop-forecast-preserved g c =
    let version = puts_then c.put.ensures (puts_then c.put_version.ensures (puts_then c.put-in-loop-forecast.ensures (puts_then (rw c.version_marks.ensures at c.put_marks.ensures) c.put-in-loop-forecast-2.ensures))) in
    list_more (version_drawn c.args.policy.now c.args.page.now) c.args.forecasts.now c.loop-forecast.forecast-index c.forecast-item.result (omega arith) c.forecast-item.is c.loop-forecast.invariant version

pub returns : goal.returns
returns g c = list_done (version_drawn c.args.policy.now c.args.page.now) c.args.forecasts.now c.loop-forecast.forecast-index c.loop-forecast-test.false c.loop-forecast.invariant
