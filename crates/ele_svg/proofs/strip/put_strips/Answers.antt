use Rattle.std.proofs.Common.{arith}
use Rattle.ele_svg.specs.Strips.{level_strip}
use Rattle.ele_output.proofs.Known.{put_more}
use Rattle.ele_output.proofs.Lists.{here, list_done}
use Rattle.ele_forecast_text.proofs.Lines.{put_start}
use Rattle.ele_svg.proofs.strip.put_strips.Goals as goal

pub loop-rung-init : goal.loop-rung-init
loop-rung-init g c = put_start c.put_strip.ensures

pub loop-rung-preserved : goal.loop-rung-preserved
loop-rung-preserved g c =
    put_more c.loop-rung.invariant (here (level_strip c.args.page.now c.args.rungs.now c.args.forecasts.now) c.args.rungs.now c.loop-rung.rung-index _ (omega arith)) (rw c.level_of.ensures at c.put_strip-in-loop-rung.ensures)

pub returns : goal.returns
returns g c =
    list_done (level_strip c.args.page.now c.args.rungs.now c.args.forecasts.now) c.args.rungs.now c.loop-rung.rung-index c.loop-rung-test.false c.loop-rung.invariant
