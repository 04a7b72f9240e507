use Rattle.std.proofs.Common.{◌∷◌, arith}
use Rattle.ele_forecast.specs.declared.forecast.Forecast.{Forecast}
use Rattle.ele_forecast_forms.specs.Json.{version_text}
use Rattle.ele_output.proofs.Known.{put_first, puts_then}
use Rattle.ele_output.proofs.Lists.{list_done, list_more}
use Rattle.ele_forecast_forms.proofs.Commas.{commas_are}
use Rattle.ele_forecast_forms.proofs.json.put_versions.Goals as goal

pub loop-version-init : goal.loop-version-init
loop-version-init g c = put_first (commas_are (λ (version : Forecast). version_text c.args.details.now c.args.plans.now version) _ _ _ c.in-Some.ensures.cases) c.put_version.ensures

pub loop-version-preserved : goal.loop-version-preserved
loop-version-preserved g c =
    list_more (λ (version : Forecast). 44 ∷ version_text c.args.details.now c.args.plans.now version) c.in-Some.rest.now c.loop-version.version-index c.version-item.result (omega arith) c.version-item.is c.loop-version.invariant (puts_then c.put_byte.ensures c.put_version-in-loop-version.ensures)

pub returns : goal.returns
returns g c = list_done (λ (version : Forecast). 44 ∷ version_text c.args.details.now c.args.plans.now version) c.in-Some.rest.now c.loop-version.version-index c.loop-version-test.false c.loop-version.invariant
