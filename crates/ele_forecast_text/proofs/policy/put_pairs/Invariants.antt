use Rattle.std.specs.Prelude.{◌∷◌, drop}
use Rattle.std.specs.List.{flat_map}
use Rattle.ele_policy.specs.Ladder.{Rung}
use Rattle.ele_policy.specs.PolicyText.{ladder_word, pair_word}
use Rattle.ele_output.specs.Prints.{outlet}
use Rattle.ele_output.proofs.Known.{HasPut}
use Rattle.ele_forecast_text.proofs.policy.put_pairs.Given as goal

-- the pairs so far are printed, and the others are left
abbrev pub invariant-loop-pair : goal.invariant-loop-pair
invariant-loop-pair g l =
    HasPut (outlet g.W.Write.contents l.fn.printer) (outlet g.W.Write.contents l.printer) (ladder_word l.pairs) (flat_map (λ (pair : Rung). 44 ∷ pair_word pair) (drop l.pair-index l.rest))
