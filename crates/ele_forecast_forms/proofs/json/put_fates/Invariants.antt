use Rattle.std.specs.Prelude.{◌∷◌, drop, map}
use Rattle.std.specs.List.{flat_map, join_with_byte}
use Rattle.ele_forecast_text.specs.declared.plan.Plan.{Plan}
use Rattle.ele_forecast_forms.specs.Json.{fate_text}
use Rattle.ele_forecast_forms.specs.Parts.{forecast_of}
use Rattle.ele_output.specs.Prints.{outlet}
use Rattle.ele_output.proofs.Known.{HasPut}
use Rattle.ele_forecast_forms.proofs.json.put_fates.Given as goal

-- the texts so far are put, and the others are left
abbrev pub invariant-loop-plan : goal.invariant-loop-plan
invariant-loop-plan g l =
    HasPut (outlet g.W.Write.contents l.fn.printer) (outlet g.W.Write.contents l.printer) (join_with_byte 44 (map (λ (plan : Plan). fate_text plan (forecast_of plan l.number)) l.plans)) (flat_map (λ (plan : Plan). 44 ∷ fate_text plan (forecast_of plan l.number)) (drop l.plan-index l.rest))
