use Rattle.std.proofs.Common.{◌∷◌, arith}
use Rattle.ele_forecast_text.specs.declared.plan.Plan.{Plan}
use Rattle.ele_forecast_forms.specs.Json.{fate_text}
use Rattle.ele_forecast_forms.specs.Parts.{forecast_of}
use Rattle.ele_output.proofs.Known.{put_first, puts_as, puts_nil, puts_then}
use Rattle.ele_output.proofs.Lists.{list_done, list_more}
use Rattle.ele_forecast_forms.proofs.Commas.{commas_are, no_commas}
use Rattle.ele_forecast_forms.proofs.json.put_fates.Goals as goal

pub loop-plan-init : goal.loop-plan-init
loop-plan-init g c = put_first (commas_are (λ (plan : Plan). fate_text plan (forecast_of plan c.args.number)) _ _ _ c.in-Some.ensures.cases) c.put_fate.ensures

pub loop-plan-preserved : goal.loop-plan-preserved
loop-plan-preserved g c =
    list_more (λ (plan : Plan). 44 ∷ fate_text plan (forecast_of plan c.args.number)) c.in-Some.rest.now c.loop-plan.plan-index c.plan-item.result (omega arith) c.plan-item.is c.loop-plan.invariant (puts_then c.put_byte.ensures c.put_fate-in-loop-plan.ensures)

pub returns : goal.returns
returns g c = list_done (λ (plan : Plan). 44 ∷ fate_text plan (forecast_of plan c.args.number)) c.in-Some.rest.now c.loop-plan.plan-index c.loop-plan-test.false c.loop-plan.invariant

pub returns-in_default : goal.returns-in_default
returns-in_default g c = puts_as (no_commas (λ (plan : Plan). fate_text plan (forecast_of plan c.args.number)) _ c.in_default.ensures.cases) (puts_nil _)
