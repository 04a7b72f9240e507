use Rattle.std.proofs.Common.{arith}
use Rattle.ele_svg.specs.Rows.{version_tied}
use Rattle.ele_output.proofs.Lists.{list_done, list_more}
use Rattle.ele_svg.proofs.rows.put_ties.Goals as goal

pub loop-forecast-preserved : goal.loop-forecast-preserved
loop-forecast-preserved g c = list_more (version_tied c.args.page.now c.args.forecasts.now) c.args.forecasts.now c.loop-forecast.forecast-index c.forecast-item.result (omega arith) c.forecast-item.is c.loop-forecast.invariant c.put_tie.ensures

pub returns : goal.returns
returns g c = list_done (version_tied c.args.page.now c.args.forecasts.now) c.args.forecasts.now c.loop-forecast.forecast-index c.loop-forecast-test.false c.loop-forecast.invariant
