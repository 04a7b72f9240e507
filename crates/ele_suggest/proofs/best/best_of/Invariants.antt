use Rattle.std.specs.Prelude.{take}
use Rattle.ele_suggest.specs.Best.{IsBestOf}
use Rattle.ele_suggest.proofs.best.best_of.Given as goal

-- the best of those so far
abbrev pub invariant-loop-place : goal.invariant-loop-place
invariant-loop-place l = IsBestOf (take l.place l.weighed) l.best
