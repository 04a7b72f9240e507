use Rattle.std.proofs.Common.{◌∷◌, arith}
use Rattle.std.specs.Prelude.{ℕ, decimal}
use Rattle.ele_output.proofs.Known.{put_first, puts_as, puts_nil, puts_then}
use Rattle.ele_output.proofs.Lists.{list_done}
use Rattle.ele_against.proofs.NamesMore.{number_more}
use Rattle.ele_forecast_forms.proofs.Commas.{commas_are, no_commas}
use Rattle.ele_against.proofs.json.put_numbers.Goals as goal

pub loop-number-init : goal.loop-number-init
loop-number-init g c = put_first (commas_are (λ (number : ℕ). decimal number) _ _ _ c.in-Some.ensures.cases) c.put_number.ensures

pub loop-number-preserved : goal.loop-number-preserved
loop-number-preserved g c =
    number_more (λ (number : ℕ). 44 ∷ decimal number) c.in-Some.rest.now c.loop-number.number-index _ (omega arith) c.loop-number.invariant c.put_with_number.ensures

pub returns : goal.returns
returns g c = list_done (λ (number : ℕ). 44 ∷ decimal number) c.in-Some.rest.now c.loop-number.number-index c.loop-number-test.false c.loop-number.invariant

pub returns-in_default : goal.returns-in_default
returns-in_default g c = puts_as (no_commas (λ (number : ℕ). decimal number) _ c.in_default.ensures.cases) (puts_nil _)
