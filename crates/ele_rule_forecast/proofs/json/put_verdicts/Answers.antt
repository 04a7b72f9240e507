use Rattle.std.proofs.Common.{◌∷◌, arith}
use Rattle.ele_rule_forecast.specs.RuledJson.{verdict_text}
use Rattle.ele_rule_forecast.specs.declared.judged.Verdict.{Verdict}
use Rattle.ele_output.proofs.Known.{put_first, puts_then}
use Rattle.ele_output.proofs.Lists.{list_done, list_more}
use Rattle.ele_rule_forecast.proofs.Commas.{commas_are}
use Rattle.ele_rule_forecast.proofs.json.put_verdicts.Goals as goal

pub loop-verdict-init : goal.loop-verdict-init
loop-verdict-init g c = put_first (commas_are (λ (verdict : Verdict). verdict_text c.args.details.now verdict) _ _ _ c.in-Some.ensures.cases) c.put_staying.ensures

pub loop-verdict-preserved : goal.loop-verdict-preserved
loop-verdict-preserved g c =
    list_more (λ (verdict : Verdict). 44 ∷ verdict_text c.args.details.now verdict) c.in-Some.rest.now c.loop-verdict.verdict-index c.verdict-item.result (omega arith) c.verdict-item.is c.loop-verdict.invariant (puts_then c.put_byte.ensures c.put_staying-in-loop-verdict.ensures)

pub returns : goal.returns
returns g c = list_done (λ (verdict : Verdict). 44 ∷ verdict_text c.args.details.now verdict) c.in-Some.rest.now c.loop-verdict.verdict-index c.loop-verdict-test.false c.loop-verdict.invariant
