use Rattle.std.proofs.Common.{ℕ, ◌*◌, ◌-◌}
use Rattle.std.specs.List.{flat_map, range_with_len}
use Rattle.ele_output.specs.Prints.{outlet}
use Rattle.ele_svg.specs.Frame.{scale_drawn, scale_marks}
use Rattle.ele_svg_marks.specs.Mark.{mark_text}
use Rattle.ele_output.proofs.Known.{HasPut}
use Rattle.ele_svg.proofs.rows.put_scale.Given as goal

-- the moments so far are put, and the others are left
abbrev pub invariant-loop-k : goal.invariant-loop-k
invariant-loop-k g l =
    HasPut (outlet g.W.Write.contents l.fn.printer) (outlet g.W.Write.contents l.printer) (scale_drawn l.page l.scale l.step) (flat_map (λ (k : ℕ). flat_map mark_text (scale_marks l.page l.scale (k * l.step))) (range_with_len l.k (l.behind - l.k)))
