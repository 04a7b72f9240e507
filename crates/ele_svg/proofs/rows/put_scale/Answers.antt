use Rattle.std.proofs.Common.{ℕ, ◌*◌, ◌/◌, arith}
use Rattle.std.specs.List.{flat_map}
use Rattle.ele_svg.specs.Frame.{scale_marks}
use Rattle.ele_svg_marks.specs.Mark.{mark_text}
use Rattle.ele_forecast_text.proofs.Folds.{each_more, each_none}
use Rattle.ele_svg_marks.proofs.Known.{each_between}
use Rattle.ele_output.proofs.Known.{put_all, put_more, put_none}
use Rattle.ele_svg.proofs.rows.put_scale.Goals as goal

pub loop-k-init : goal.loop-k-init
loop-k-init g c =
    let line = λ (k : ℕ). flat_map mark_text (scale_marks c.args.page.now c.args.scale (k * c.args.step)) in
    put_none (each_between line (c.args.page.now.first / c.args.step) (c.args.page.now.last / c.args.step) _ _ c.multiple_behind-first.ensures c.multiple_behind-behind.ensures)

pub loop-k-preserved : goal.loop-k-preserved
loop-k-preserved g c =
    let line = λ (k : ℕ). flat_map mark_text (scale_marks c.args.page.now c.args.scale (k * c.args.step)) in
    put_more c.loop-k.invariant (each_more line c.loop-k.k c.multiple_behind-behind.result (omega arith)) (rw c.multiple.ensures at c.put_multiple.ensures)

pub returns : goal.returns
returns g c =
    let line = λ (k : ℕ). flat_map mark_text (scale_marks c.args.page.now c.args.scale (k * c.args.step)) in
    put_all c.loop-k.invariant (each_none line c.loop-k.k c.multiple_behind-behind.result (omega arith))
