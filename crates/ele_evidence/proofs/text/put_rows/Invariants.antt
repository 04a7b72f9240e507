use Rattle.ele_evidence.proofs.Basics.{drop}
use Rattle.ele_evidence.proofs.Texts.{Rowed}
use Rattle.ele_output.specs.Prints.{outlet}
use Rattle.ele_evidence.proofs.text.put_rows.Given as goal

-- the rows so far are put, and the others are left
abbrev pub invariant-loop-entry : goal.invariant-loop-entry
invariant-loop-entry g l = Rowed (outlet g.W.Write.contents l.fn.printer) (outlet g.W.Write.contents l.printer) l.fn.above l.line l.entries (drop l.entry-index l.entries)
