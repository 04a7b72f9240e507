use Rattle.std.proofs.Common.{refl}
use Rattle.std.proofs.lemmas.Grind.{put_two}
use Rattle.ele_policy.proofs.Pairs.{pairs_are}
use Rattle.ele_policy.proofs.ladder.LadderDisplay.fmt.Goals as goal

pub returns-clause-writes : goal.returns-clause-writes
returns-clause-writes g c = λ plain ok.
    let first = c.in_ok-write.ensures.writes plain refl in
    put_two _ _ _ _ _ _ _ first (c.loop-age.invariant first.plain) (rw (← c.pairs.ensures.value) (pairs_are _ _ _ _ c.in-Some.ensures.cases c.loop-age-test.false))
