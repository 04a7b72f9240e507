use Rattle.std.specs.Prelude.{◌∷◌, drop, map}
use Rattle.std.specs.List.{flat_map, join_with_byte}
use Rattle.ele_output.specs.Prints.{outlet}
use Rattle.ele_rule_forecast.specs.RuledJson.{verdict_text}
use Rattle.ele_rule_forecast.specs.declared.judged.Verdict.{Verdict}
use Rattle.ele_output.proofs.Known.{HasPut}
use Rattle.ele_rule_forecast.proofs.json.put_verdicts.Given as goal

-- the texts so far are put, and the others are left
abbrev pub invariant-loop-verdict : goal.invariant-loop-verdict
invariant-loop-verdict g l =
    HasPut (outlet g.W.Write.contents l.fn.printer) (outlet g.W.Write.contents l.printer) (join_with_byte 44 (map (λ (verdict : Verdict). verdict_text l.details verdict) l.verdicts)) (flat_map (λ (verdict : Verdict). 44 ∷ verdict_text l.details verdict) (drop l.verdict-index l.rest))
