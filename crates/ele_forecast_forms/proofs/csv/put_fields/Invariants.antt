use Rattle.std.specs.Prelude.{drop}
use Rattle.std.specs.List.{flat_map}
use Rattle.ele_forecast_text.specs.declared.plan.Plan.{Plan}
use Rattle.ele_output.specs.Prints.{outlet}
use Rattle.ele_forecast_forms.specs.Csv.{fate_fields, row_fields}
use Rattle.ele_forecast_forms.specs.Parts.{forecast_of}
use Rattle.ele_output.proofs.Known.{HasPut}
use Rattle.ele_forecast_forms.proofs.csv.put_fields.Given as goal

-- the fields so far are put, and the others are left
abbrev pub invariant-loop-plan : goal.invariant-loop-plan
invariant-loop-plan g l =
    HasPut (outlet g.W.Write.contents l.fn.printer) (outlet g.W.Write.contents l.printer) (row_fields l.details l.plans l.version) (flat_map (λ (plan : Plan). fate_fields plan.policy (forecast_of plan l.version.number)) (drop l.plan-index l.plans))
