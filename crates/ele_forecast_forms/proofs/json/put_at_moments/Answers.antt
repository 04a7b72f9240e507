use Rattle.std.proofs.Common.{◌∷◌, arith}
use Rattle.ele_forecast_text.specs.declared.staying.Staying.{Staying}
use Rattle.ele_forecast_forms.specs.Json.{staying_text}
use Rattle.ele_output.proofs.Known.{put_first, puts_then}
use Rattle.ele_output.proofs.Lists.{list_done, list_more}
use Rattle.ele_forecast_forms.proofs.Commas.{commas_are}
use Rattle.ele_forecast_forms.proofs.json.put_at_moments.Goals as goal

pub loop-staying-init : goal.loop-staying-init
loop-staying-init g c = put_first (commas_are (λ (staying : Staying). staying_text c.args.details.now staying) _ _ _ c.in-Some.ensures.cases) c.put_staying.ensures

pub loop-staying-preserved : goal.loop-staying-preserved
loop-staying-preserved g c =
    list_more (λ (staying : Staying). 44 ∷ staying_text c.args.details.now staying) c.in-Some.rest.now c.loop-staying.staying-index c.staying-item.result (omega arith) c.staying-item.is c.loop-staying.invariant (puts_then c.put_byte.ensures c.put_staying-in-loop-staying.ensures)

pub returns : goal.returns
returns g c = list_done (λ (staying : Staying). 44 ∷ staying_text c.args.details.now staying) c.in-Some.rest.now c.loop-staying.staying-index c.loop-staying-test.false c.loop-staying.invariant
