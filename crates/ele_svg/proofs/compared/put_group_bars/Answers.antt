use Rattle.std.proofs.Common.{◌∙◌}
use Rattle.ele_svg.specs.ComparedDrawing.{group_bar}
use Rattle.ele_svg.proofs.Groups.{group_bars_are}
use Rattle.ele_forecast_text.proofs.Folds.{each_first, each_more, each_none}
use Rattle.ele_output.proofs.Known.{put_all, put_more, put_none}
use Rattle.ele_svg.proofs.compared.put_group_bars.Goals as goal

pub loop-column-init : goal.loop-column-init
loop-column-init g c =
    put_none (group_bars_are c.args.page.now c.args.group c.args.forecasts.now c.args.numbers.now ∙ each_first (group_bar c.args.page.now c.args.group c.args.forecasts.now c.args.numbers.now) 187)

pub loop-column-preserved : goal.loop-column-preserved
loop-column-preserved g c =
    put_more c.loop-column.invariant (each_more (group_bar c.args.page.now c.args.group c.args.forecasts.now c.args.numbers.now) c.loop-column.column 187 c.loop-column-test.true)
    (rw (c.bar_height.ensures.value, c.group_most-most.ensures.value, c.group_count-count.ensures, c.stroke.ensures, c.top-top.ensures.value) at c.put_bar.ensures)

pub returns : goal.returns
returns g c = put_all c.loop-column.invariant (each_none (group_bar c.args.page.now c.args.group c.args.forecasts.now c.args.numbers.now) c.loop-column.column 187 c.loop-column-test.false)
