use Rattle.std.proofs.Common.{◌∙◌}
use Rattle.ele_svg.specs.Strips.{bar_in}
use Rattle.ele_svg.proofs.Bars.{bars_are}
use Rattle.ele_forecast_text.proofs.Folds.{each_first, each_more, each_none}
use Rattle.ele_output.proofs.Known.{put_all, put_more, put_none}
use Rattle.ele_svg.proofs.strip.put_bars.Goals as goal

pub loop-column-init : goal.loop-column-init
loop-column-init g c =
    put_none (bars_are c.args.page.now c.args.top c.args.level c.args.forecasts.now ∙ each_first (bar_in c.args.page.now c.args.top c.args.level c.args.forecasts.now) 187)

pub loop-column-preserved : goal.loop-column-preserved
loop-column-preserved g c =
    put_more c.loop-column.invariant (each_more (bar_in c.args.page.now c.args.top c.args.level c.args.forecasts.now) c.loop-column.column 187 c.loop-column-test.true)
    (rw (c.bar_height.ensures.value, c.most_in-most.ensures.value, c.count_in-count.ensures) at c.put_bar.ensures)

pub returns : goal.returns
returns g c = put_all c.loop-column.invariant (each_none (bar_in c.args.page.now c.args.top c.args.level c.args.forecasts.now) c.loop-column.column 187 c.loop-column-test.false)
