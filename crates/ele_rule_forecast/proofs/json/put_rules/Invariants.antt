use Rattle.std.specs.Prelude.{◌∷◌, drop, map}
use Rattle.std.specs.List.{flat_map, join_with_byte}
use Rattle.ele_output.specs.Prints.{outlet}
use Rattle.ele_rule_forecast.specs.RuledJson.{rule_text}
use Rattle.ele_rule_forecast.specs.declared.judged.Judged.{Judged}
use Rattle.ele_output.proofs.Known.{HasPut}
use Rattle.ele_rule_forecast.proofs.json.put_rules.Given as goal

-- the texts so far are put, and the others are left
abbrev pub invariant-loop-rule : goal.invariant-loop-rule
invariant-loop-rule g l =
    HasPut (outlet g.W.Write.contents l.fn.printer) (outlet g.W.Write.contents l.printer) (join_with_byte 44 (map (λ (judged : Judged). rule_text l.details l.versions judged) l.rules)) (flat_map (λ (judged : Judged). 44 ∷ rule_text l.details l.versions judged) (drop l.rule-index l.rest))
