use Rattle.std.proofs.Common.{arith}
use Rattle.ele_svg.specs.Key.{axis_at}
use Rattle.ele_forecast_text.proofs.Folds.{each_first, each_more, each_none}
use Rattle.ele_output.proofs.Known.{put_all, put_more, put_none}
use Rattle.ele_svg.proofs.curve.put_axis_lines.Goals as goal

pub loop-k-init : goal.loop-k-init
loop-k-init g c = put_none (each_first (axis_at c.args.page.now c.args.measure c.args.highest) c.args.lines)

pub loop-k-preserved : goal.loop-k-preserved
loop-k-preserved g c =
    put_more c.loop-k.invariant (each_more (axis_at c.args.page.now c.args.measure c.args.highest) c.loop-k.k c.args.lines c.loop-k-test.true) (rw (c.multiple-amount.ensures, c.requires.is) at c.put_axis_line.ensures)

pub returns : goal.returns
returns g c = put_all c.loop-k.invariant (each_none (axis_at c.args.page.now c.args.measure c.args.highest) c.loop-k.k c.args.lines c.loop-k-test.false)
