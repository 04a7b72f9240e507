use Rattle.ele_audit.proofs.Basics.{drop}
use Rattle.ele_audit.proofs.Texts.{Answered}
use Rattle.ele_output.specs.Prints.{outlet}
use Rattle.ele_audit.proofs.text.put_each_answer.Given as goal

-- the answers so far are put, and the others are left
abbrev pub invariant-loop-entry : goal.invariant-loop-entry
invariant-loop-entry g l = Answered (outlet g.W.Write.contents l.fn.printer) (outlet g.W.Write.contents l.printer) l.entries (drop l.entry-index l.entries)
