use Rattle.ele_evidence.specs.Checked.{Begins}
use Rattle.ele_evidence.proofs.checking.verify_rows.Given as goal

-- the rows so far are right, and the others are left
abbrev pub invariant-rows : goal.invariant-rows
invariant-rows g l = Begins l.fn.history.base.limits l.text l.history l.line l.rest
