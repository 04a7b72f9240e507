use Rattle.std.specs.Prelude.{◌++◌, codes, drop}
use Rattle.std.specs.List.{flat_map}
use Rattle.ele_output.specs.Prints.{outlet}
use Rattle.ele_svg.specs.Curve.{point_text}
use Rattle.ele_svg.specs.Summary.{curve_drawn}
use Rattle.ele_output.proofs.Known.{HasPut}
use Rattle.ele_svg.proofs.curve.put_curve.Given as goal

-- the points so far are put, and the others and the end of the curve are left
abbrev pub invariant-loop-row : goal.invariant-loop-row
invariant-loop-row g l =
    HasPut (outlet g.W.Write.contents l.fn.printer) (outlet g.W.Write.contents l.printer) (curve_drawn l.page l.highest l.rows l.place) (flat_map (point_text l.page l.highest l.place) (drop l.row-index l.rows) ++ codes "'/>\n")
