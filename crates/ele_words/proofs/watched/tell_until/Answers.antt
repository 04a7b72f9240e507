use Rattle.ele_words.proofs.Progress.{looked_further, seen_more, shows_front, shows_told, tells_next}
use Rattle.ele_words.proofs.watched.tell_until.Goals as goal

pub returns-then-rings_within-clause-progress : goal.returns-then-rings_within-clause-progress
returns-then-rings_within-clause-progress g c = shows_told _ _ _ c.loop.invariant.3

pub loop-preserved : goal.loop-preserved
loop-preserved g c = (
  tt,
  tt,
  looked_further _ _ _ c.loop.invariant.2 c.in-Ok.ensures.looked,
  tells_next _ _ _ _ _ c.loop.invariant.3 (seen_more _ _ c.in-Ok.ensures.looked) c.in-Ok.ensures.told,
)

pub returns-in_default-clause-progress : goal.returns-in_default-clause-progress
returns-in_default-clause-progress g c =
    shows_front _ _ _ _ _ c.loop.invariant.3 (seen_more _ _ c.in_default.ensures.looked) c.in_default.ensures.told
