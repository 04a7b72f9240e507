use Rattle.std.proofs.Common.{◌∷◌, take}
use Rattle.std.specs.Fmt.{HasWritten, IsPlainFormatter}
use Rattle.std.specs.List.{flat_map}
use Rattle.ele_policy.specs.Ladder.{Rung}
use Rattle.ele_policy.specs.PolicyText.{pair_word}
use Rattle.ele_policy.proofs.ladder.LadderDisplay.fmt.Given as goal

-- a comma and a pair are written for each so far
abbrev pub invariant-loop-age : goal.invariant-loop-age
invariant-loop-age g l =
    IsPlainFormatter l.initial.f → HasWritten g.W.Write.write_str_gives l.initial.f (flat_map (λ (pair : Rung). 44 ∷ pair_word pair) (take l.age-index l.rest)) l.f
