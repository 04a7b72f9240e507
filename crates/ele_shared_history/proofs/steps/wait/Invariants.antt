use Rattle.std.proofs.Common.{MatchBool}
use Rattle.ele_shared_history.specs.Steps.{IsSame, StaysIdle, TakesTurn}
use Rattle.ele_shared_history.proofs.steps.wait.Given as goal

abbrev pub invariant-loop : goal.invariant-loop
invariant-loop g l =
    (goal.iterator-loop g).can_next l.iterator' × (goal.iterator-loop g).is_finite l.iterator'
    × IsSame l.fn.place l.place
    × MatchBool l.taken (TakesTurn l.fn.place.me l.place.me) (StaysIdle l.fn.place.me l.place.me)
