use Rattle.ele_well_formed.proofs.Words.{AllByRecursion, take}
use Rattle.ele_well_formed.proofs.test.first_wrong.Given as goal

abbrev pub invariant-loop-at : goal.invariant-loop-at
invariant-loop-at g l = AllByRecursion (g.C.Test.fits l.test) (take l.at l.rows)
