use Rattle.std.specs.Prelude.{codes}
use Rattle.ele_svg.specs.Curve.{point_text}
use Rattle.ele_output.proofs.Known.{put_last}
use Rattle.ele_forecast_text.proofs.Lines.{list_more_then, list_past, put_start}
use Rattle.ele_svg.proofs.curve.put_curve.Goals as goal

pub loop-row-init : goal.loop-row-init
loop-row-init g c = put_start (rw (c.words.ensures, c.curve_stroke.ensures) at c.put_parts.ensures)

pub loop-row-preserved : goal.loop-row-preserved
loop-row-preserved g c =
    list_more_then (point_text c.args.page.now c.args.highest c.args.place) c.args.rows.now c.loop-row.row-index c.row-item.result (codes "'/>\n") c.loop-row-test.true c.row-item.is c.loop-row.invariant c.put_point.ensures

pub returns : goal.returns
returns g c =
    put_last (list_past (point_text c.args.page.now c.args.highest c.args.place) c.args.rows.now c.loop-row.row-index (codes "'/>\n") c.loop-row-test.false c.loop-row.invariant) c.put.ensures
