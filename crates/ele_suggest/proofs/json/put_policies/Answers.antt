use Rattle.std.proofs.Common.{◌∷◌, arith}
use Rattle.ele_output.proofs.Known.{put_first, puts_as, puts_nil, puts_then}
use Rattle.ele_output.proofs.Lists.{list_done, list_more}
use Rattle.ele_forecast_forms.proofs.Commas.{commas_are, no_commas}
use Rattle.ele_suggest.specs.SuggestedJson.{weighed_json}
use Rattle.ele_suggest.specs.declared.weighed.Weighed.{Weighed}
use Rattle.ele_suggest.proofs.json.put_policies.Goals as goal

pub loop-other-init : goal.loop-other-init
loop-other-init g c = put_first (commas_are (λ (one : Weighed). weighed_json c.args.sizes one) _ _ _ c.in-Some.ensures.cases) c.put_weighed.ensures

pub loop-other-preserved : goal.loop-other-preserved
loop-other-preserved g c =
    list_more (λ (one : Weighed). 44 ∷ weighed_json c.args.sizes one) c.in-Some.rest.now c.loop-other.other-index c.other-item.result (omega arith) c.other-item.is c.loop-other.invariant (puts_then c.put_byte.ensures c.put_weighed-in-loop-other.ensures)

pub returns : goal.returns
returns g c = list_done (λ (one : Weighed). 44 ∷ weighed_json c.args.sizes one) c.in-Some.rest.now c.loop-other.other-index c.loop-other-test.false c.loop-other.invariant

pub returns-in_default : goal.returns-in_default
returns-in_default g c = puts_as (no_commas (λ (one : Weighed). weighed_json c.args.sizes one) _ c.in_default.ensures.cases) (puts_nil _)
