use Rattle.std.specs.Prelude.{◌++◌, drop}
use Rattle.std.specs.List.{flat_map}
use Rattle.ele_output.specs.Prints.{outlet}
use Rattle.ele_forecast_text.specs.Table.{detailed_line, staying_line, table_text}
use Rattle.ele_output.proofs.Known.{HasPut}
use Rattle.ele_forecast_text.proofs.table.put_table.Given as goal

-- the lines of the versions so far are printed, and the others and those of the moments are left
abbrev pub invariant-loop-forecast : goal.invariant-loop-forecast
invariant-loop-forecast g l =
    HasPut (outlet g.W.Write.contents l.fn.printer) (outlet g.W.Write.contents l.printer) (table_text l.details l.plan) (flat_map (detailed_line l.plan.policy l.details) (drop l.forecast-index l.forecasts) ++ flat_map (staying_line l.details) l.stayings)

-- the lines of the moments so far are printed too, and the others are left
abbrev pub invariant-loop-staying : goal.invariant-loop-staying
invariant-loop-staying g l =
    HasPut (outlet g.W.Write.contents l.fn.printer) (outlet g.W.Write.contents l.printer) (table_text l.details l.plan) (flat_map (staying_line l.details) (drop l.staying-index l.stayings))
