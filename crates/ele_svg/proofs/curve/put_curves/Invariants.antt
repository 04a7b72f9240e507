use Rattle.std.proofs.Common.{◌-◌}
use Rattle.std.specs.List.{flat_map, range_with_len}
use Rattle.ele_output.specs.Prints.{outlet}
use Rattle.ele_svg.specs.Summary.{curve_drawn, curves_drawn}
use Rattle.ele_output.proofs.Known.{HasPut}
use Rattle.ele_svg.proofs.curve.put_curves.Given as goal

-- the curves so far are put, and the others are left
abbrev pub invariant-loop-place : goal.invariant-loop-place
invariant-loop-place g l =
    HasPut (outlet g.W.Write.contents l.fn.printer) (outlet g.W.Write.contents l.printer) (curves_drawn l.page l.fn.highest l.rows l.fn.curves) (flat_map (curve_drawn l.page l.fn.highest l.rows) (range_with_len l.place (l.fn.curves - l.place)))
