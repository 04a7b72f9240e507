use Rattle.std.specs.Prelude.{drop}
use Rattle.std.specs.List.{flat_map}
use Rattle.ele_output.specs.Prints.{outlet}
use Rattle.ele_svg.specs.Strips.{level_strip, strips_drawn}
use Rattle.ele_output.proofs.Known.{HasPut}
use Rattle.ele_svg.proofs.strip.put_strips.Given as goal

-- the strips so far are put, and the others are left
abbrev pub invariant-loop-rung : goal.invariant-loop-rung
invariant-loop-rung g l =
    HasPut (outlet g.W.Write.contents l.fn.printer) (outlet g.W.Write.contents l.printer) (strips_drawn l.page l.rungs l.forecasts) (flat_map (level_strip l.page l.rungs l.forecasts) (drop l.rung-index l.rungs))
