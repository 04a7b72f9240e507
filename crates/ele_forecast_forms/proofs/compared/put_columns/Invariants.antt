use Rattle.std.specs.Prelude.{drop}
use Rattle.std.specs.List.{flat_map}
use Rattle.ele_output.specs.Prints.{outlet}
use Rattle.ele_forecast_forms.specs.Compared.{compared_columns, due_column}
use Rattle.ele_output.proofs.Known.{HasPut}
use Rattle.ele_forecast_forms.proofs.compared.put_columns.Given as goal

-- the moments so far are put, and the others are left
abbrev pub invariant-loop-plan : goal.invariant-loop-plan
invariant-loop-plan g l =
    HasPut (outlet g.W.Write.contents l.fn.printer) (outlet g.W.Write.contents l.printer) (compared_columns l.details l.plans l.forecast) (flat_map (due_column l.forecast.number) (drop l.plan-index l.plans))
