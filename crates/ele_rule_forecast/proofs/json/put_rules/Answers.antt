use Rattle.std.proofs.Common.{◌∷◌, arith}
use Rattle.ele_rule_forecast.specs.RuledJson.{rule_text}
use Rattle.ele_rule_forecast.specs.declared.judged.Judged.{Judged}
use Rattle.ele_output.proofs.Known.{put_first, puts_then}
use Rattle.ele_output.proofs.Lists.{list_done, list_more}
use Rattle.ele_rule_forecast.proofs.Commas.{commas_are}
use Rattle.ele_rule_forecast.proofs.json.put_rules.Goals as goal

pub loop-rule-init : goal.loop-rule-init
loop-rule-init g c = put_first (commas_are (λ (judged : Judged). rule_text c.args.details.now c.args.versions.now judged) _ _ _ c.in-Some.ensures.cases) c.put_rule.ensures

pub loop-rule-preserved : goal.loop-rule-preserved
loop-rule-preserved g c =
    list_more (λ (judged : Judged). 44 ∷ rule_text c.args.details.now c.args.versions.now judged) c.in-Some.rest.now c.loop-rule.rule-index c.rule-item.result (omega arith) c.rule-item.is c.loop-rule.invariant (puts_then c.put_byte.ensures c.put_rule-in-loop-rule.ensures)

pub returns : goal.returns
returns g c = list_done (λ (judged : Judged). 44 ∷ rule_text c.args.details.now c.args.versions.now judged) c.in-Some.rest.now c.loop-rule.rule-index c.loop-rule-test.false c.loop-rule.invariant
