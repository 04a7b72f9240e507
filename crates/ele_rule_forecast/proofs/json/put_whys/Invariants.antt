use Rattle.std.specs.Prelude.{◌∷◌, drop, map}
use Rattle.std.specs.List.{flat_map, join_with_byte}
use Rattle.ele_output.specs.Prints.{outlet}
use Rattle.ele_forecast.specs.declared.forecast.Forecast.{Forecast}
use Rattle.ele_rule_forecast.specs.Judged.{reason_in}
use Rattle.ele_rule_forecast.specs.RuledJson.{reason_or_null}
use Rattle.ele_output.proofs.Known.{HasPut}
use Rattle.ele_rule_forecast.proofs.json.put_whys.Given as goal

-- the texts so far are put, and the others are left
abbrev pub invariant-loop-version : goal.invariant-loop-version
invariant-loop-version g l =
    HasPut (outlet g.W.Write.contents l.fn.printer) (outlet g.W.Write.contents l.printer) (join_with_byte 44 (map (λ (told : Forecast). reason_or_null (reason_in l.rule told.number)) l.versions)) (flat_map (λ (told : Forecast). 44 ∷ reason_or_null (reason_in l.rule told.number)) (drop l.version-index l.rest))
