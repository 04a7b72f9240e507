use Rattle.ele_well_formed.proofs.Words.{AllLater, ArePlaced, take, ◌+◌}
use Rattle.ele_well_formed.proofs.versions.misplaced_version.Given as goal

abbrev pub invariant-loop-place : goal.invariant-loop-place
invariant-loop-place l = AllLater ArePlaced (take (l.place + 1) l.rows)
