use Rattle.std.proofs.Common.{◌-◌}
use Rattle.std.specs.List.{flat_map, range_with_len}
use Rattle.ele_output.specs.Prints.{outlet}
use Rattle.ele_svg.specs.Strips.{bar_in, bars_drawn}
use Rattle.ele_output.proofs.Known.{HasPut}
use Rattle.ele_svg.proofs.strip.put_bars.Given as goal

-- the bars so far are put, and the others are left
abbrev pub invariant-loop-column : goal.invariant-loop-column
invariant-loop-column g l =
    HasPut (outlet g.W.Write.contents l.fn.printer) (outlet g.W.Write.contents l.printer) (bars_drawn l.page l.fn.top l.fn.level l.forecasts) (flat_map (bar_in l.page l.fn.top l.fn.level l.forecasts) (range_with_len l.column (187 - l.column)))
