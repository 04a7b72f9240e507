use Rattle.std.proofs.Common.{◌-◌}
use Rattle.std.specs.List.{flat_map, range_with_len}
use Rattle.ele_output.specs.Prints.{outlet}
use Rattle.ele_svg.specs.ComparedDrawing.{group_bar, group_bars}
use Rattle.ele_output.proofs.Known.{HasPut}
use Rattle.ele_svg.proofs.compared.put_group_bars.Given as goal

-- the bars so far are put, and the others are left
abbrev pub invariant-loop-column : goal.invariant-loop-column
invariant-loop-column g l =
    HasPut (outlet g.W.Write.contents l.fn.printer) (outlet g.W.Write.contents l.printer) (group_bars l.page l.fn.group l.forecasts l.numbers) (flat_map (group_bar l.page l.fn.group l.forecasts l.numbers) (range_with_len l.column (187 - l.column)))
