use Rattle.std.proofs.Common.{◌∷◌, arith}
use Rattle.ele_policy.specs.Ladder.{Rung}
use Rattle.ele_policy.specs.PolicyText.{pair_word}
use Rattle.ele_output.proofs.Known.{put_first, put_more, puts_as, puts_nil}
use Rattle.ele_output.proofs.Lists.{here, list_done}
use Rattle.ele_forecast_text.proofs.Known.{no_pairs, pairs_are}
use Rattle.ele_forecast_text.proofs.policy.put_pairs.Goals as goal

pub loop-pair-init : goal.loop-pair-init
loop-pair-init g c = put_first (pairs_are _ _ _ c.in-Some.ensures.cases) (c.put_pair.ensures)

pub loop-pair-preserved : goal.loop-pair-preserved
loop-pair-preserved g c = put_more c.loop-pair.invariant (here (λ (pair : Rung). 44 ∷ pair_word pair) c.in-Some.rest.now c.loop-pair.pair-index _ (omega arith)) c.put_pair-in-loop-pair.ensures

pub returns : goal.returns
returns g c = list_done (λ (pair : Rung). 44 ∷ pair_word pair) c.in-Some.rest.now c.loop-pair.pair-index c.loop-pair-test.false c.loop-pair.invariant

pub returns-in_default : goal.returns-in_default
returns-in_default g c = puts_as (no_pairs _ c.in_default.ensures.cases) (puts_nil _)
