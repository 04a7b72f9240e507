use Rattle.std.specs.Prelude.{drop}
use Rattle.std.specs.List.{flat_map}
use Rattle.ele_forecast_text.specs.declared.plan.Plan.{Plan}
use Rattle.ele_output.specs.Prints.{outlet}
use Rattle.ele_forecast_forms.specs.Csv.{heading_fields, policy_headings}
use Rattle.ele_output.proofs.Known.{HasPut}
use Rattle.ele_forecast_forms.proofs.csv.put_heading_fields.Given as goal

-- the headings so far are put, and the others are left
abbrev pub invariant-loop-plan : goal.invariant-loop-plan
invariant-loop-plan g l =
    HasPut (outlet g.W.Write.contents l.fn.printer) (outlet g.W.Write.contents l.printer) (heading_fields l.details l.plans) (flat_map (λ (plan : Plan). policy_headings plan.word.items) (drop l.plan-index l.plans))
