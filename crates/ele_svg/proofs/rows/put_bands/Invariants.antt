use Rattle.std.specs.Prelude.{drop}
use Rattle.std.specs.List.{flat_map}
use Rattle.ele_output.specs.Prints.{outlet}
use Rattle.ele_svg.specs.Frame.{band_drawn}
use Rattle.ele_output.proofs.Known.{HasPut}
use Rattle.ele_svg.proofs.rows.put_bands.Given as goal

-- the levels so far are put, and the others are left
abbrev pub invariant-loop-rung : goal.invariant-loop-rung
invariant-loop-rung g l =
    HasPut (outlet g.W.Write.contents l.fn.printer) (outlet g.W.Write.contents l.printer) (flat_map (band_drawn l.page l.rungs) l.rungs) (flat_map (band_drawn l.page l.rungs) (drop l.rung-index l.rungs))
