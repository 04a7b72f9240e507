use Rattle.ele_renewal.proofs.Words.{take}
use Rattle.ele_renewal.specs.Writers.{AreFirst}
use Rattle.ele_renewal.proofs.writers.first_writers.Given as goal

abbrev pub invariant-loop-row : goal.invariant-loop-row
invariant-loop-row l = AreFirst l.rows (take l.row-index l.rows) l.known
