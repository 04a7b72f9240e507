use Rattle.std.proofs.Common.{◌-◌}
use Rattle.std.specs.List.{flat_map, range_with_len}
use Rattle.ele_output.specs.Prints.{outlet}
use Rattle.ele_svg.specs.Key.{axis_at, axis_until}
use Rattle.ele_output.proofs.Known.{HasPut}
use Rattle.ele_svg.proofs.curve.put_axis_lines.Given as goal

-- the lines so far are put, and the others are left
abbrev pub invariant-loop-k : goal.invariant-loop-k
invariant-loop-k g l =
    HasPut (outlet g.W.Write.contents l.fn.printer) (outlet g.W.Write.contents l.printer) (axis_until l.page l.fn.measure l.fn.highest l.fn.lines) (flat_map (axis_at l.page l.fn.measure l.fn.highest) (range_with_len l.k (l.fn.lines - l.k)))
