use Rattle.std.proofs.Common.{arith}
use Rattle.ele_svg.specs.Summary.{curve_drawn}
use Rattle.ele_forecast_text.proofs.Folds.{each_first, each_more, each_none}
use Rattle.ele_output.proofs.Known.{put_all, put_more, put_none}
use Rattle.ele_svg.proofs.curve.put_curves.Goals as goal

pub loop-place-init : goal.loop-place-init
loop-place-init g c = put_none (each_first (curve_drawn c.args.page.now c.args.highest c.args.rows.now) c.args.curves)

pub loop-place-preserved : goal.loop-place-preserved
loop-place-preserved g c = put_more c.loop-place.invariant (each_more (curve_drawn c.args.page.now c.args.highest c.args.rows.now) c.loop-place.place c.args.curves (omega arith)) c.put_curve.ensures

pub returns : goal.returns
returns g c = put_all c.loop-place.invariant (each_none (curve_drawn c.args.page.now c.args.highest c.args.rows.now) c.loop-place.place c.args.curves (omega arith))
