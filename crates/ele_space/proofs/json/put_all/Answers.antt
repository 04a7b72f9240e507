use Rattle.std.proofs.Common.{◌∷◌, arith}
use Rattle.ele_output.proofs.Known.{put_first, puts_as, puts_nil, puts_then}
use Rattle.ele_output.proofs.Lists.{list_done, list_more}
use Rattle.ele_forecast_forms.proofs.Commas.{commas_are, no_commas}
use Rattle.ele_space.specs.Removals.{removal_json}
use Rattle.ele_space.specs.declared.removals.Removals.{Removals}
use Rattle.ele_space.proofs.json.put_all.Goals as goal

pub loop-removal-init : goal.loop-removal-init
loop-removal-init g c = put_first (commas_are (λ (removal : Removals). removal_json c.args.details.now removal) _ _ _ c.in-Some.ensures.cases) c.put_removal.ensures

pub loop-removal-preserved : goal.loop-removal-preserved
loop-removal-preserved g c =
    list_more (λ (removal : Removals). 44 ∷ removal_json c.args.details.now removal) c.in-Some.rest.now c.loop-removal.removal-index c.removal-item.result (omega arith) c.removal-item.is c.loop-removal.invariant (puts_then c.put_byte.ensures c.put_removal-in-loop-removal.ensures)

pub returns : goal.returns
returns g c = list_done (λ (removal : Removals). 44 ∷ removal_json c.args.details.now removal) c.in-Some.rest.now c.loop-removal.removal-index c.loop-removal-test.false c.loop-removal.invariant

pub returns-in_default : goal.returns-in_default
returns-in_default g c = puts_as (no_commas (λ (removal : Removals). removal_json c.args.details.now removal) _ c.in_default.ensures.cases) (puts_nil _)
