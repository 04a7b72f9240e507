use Rattle.std.proofs.Common.{◌∷◌, arith}
use Rattle.ele_forecast.specs.declared.forecast.Forecast.{Forecast}
use Rattle.ele_rule_forecast.specs.Judged.{reason_in}
use Rattle.ele_rule_forecast.specs.RuledJson.{reason_or_null}
use Rattle.ele_output.proofs.Known.{put_first, puts_then}
use Rattle.ele_output.proofs.Lists.{list_done, list_more}
use Rattle.ele_rule_forecast.proofs.Commas.{commas_are}
use Rattle.ele_rule_forecast.proofs.json.put_whys.Goals as goal

pub loop-version-init : goal.loop-version-init
loop-version-init g c = put_first (commas_are (λ (told : Forecast). reason_or_null (reason_in c.args.rule.now told.number)) _ _ _ c.in-Some.ensures.cases) (rw c.reason_in.ensures at c.put_why.ensures)

pub loop-version-preserved : goal.loop-version-preserved
loop-version-preserved g c =
    list_more (λ (told : Forecast). 44 ∷ reason_or_null (reason_in c.args.rule.now told.number)) c.in-Some.rest.now c.loop-version.version-index c.version-item.result (omega arith) c.version-item.is c.loop-version.invariant (puts_then c.put_byte.ensures (rw c.reason_in-in-loop-version.ensures at c.put_why-in-loop-version.ensures))

pub returns : goal.returns
returns g c = list_done (λ (told : Forecast). 44 ∷ reason_or_null (reason_in c.args.rule.now told.number)) c.in-Some.rest.now c.loop-version.version-index c.loop-version-test.false c.loop-version.invariant
