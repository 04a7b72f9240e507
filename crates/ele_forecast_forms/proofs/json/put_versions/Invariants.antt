use Rattle.std.specs.Prelude.{◌∷◌, drop, map}
use Rattle.std.specs.List.{flat_map, join_with_byte}
use Rattle.ele_forecast.specs.declared.forecast.Forecast.{Forecast}
use Rattle.ele_forecast_forms.specs.Json.{version_text}
use Rattle.ele_output.specs.Prints.{outlet}
use Rattle.ele_output.proofs.Known.{HasPut}
use Rattle.ele_forecast_forms.proofs.json.put_versions.Given as goal

-- the texts so far are put, and the others are left
abbrev pub invariant-loop-version : goal.invariant-loop-version
invariant-loop-version g l =
    HasPut (outlet g.W.Write.contents l.fn.printer) (outlet g.W.Write.contents l.printer) (join_with_byte 44 (map (λ (version : Forecast). version_text l.details l.plans version) l.versions)) (flat_map (λ (version : Forecast). 44 ∷ version_text l.details l.plans version) (drop l.version-index l.rest))
