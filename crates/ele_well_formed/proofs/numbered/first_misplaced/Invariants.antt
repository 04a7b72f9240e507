use Rattle.ele_well_formed.proofs.Words.{Rises, take, ◌+◌}
use Rattle.ele_well_formed.proofs.numbered.first_misplaced.Given as goal

abbrev pub invariant-loop-place : goal.invariant-loop-place
invariant-loop-place g l = Rises g.T.Numbered.number (take (l.place + 1) l.rows)
