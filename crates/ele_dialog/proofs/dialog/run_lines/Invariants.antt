use Rattle.ele_dialog.proofs.Typed.{TypedSoFar}
use Rattle.ele_output.specs.Outlet.{IsHandedOver}
use Rattle.ele_output.specs.Prints.{outlet}
use Rattle.ele_dialog.proofs.dialog.run_lines.Given as goal

-- the lines so far were answered, and the answers handed over
abbrev pub invariant-lines : goal.invariant-lines
invariant-lines g l =
    TypedSoFar l.fn.history (g.R.Read.remaining l.fn.reader) (g.R.Read.remaining l.reader) (outlet g.W.Write.contents l.fn.printer) (outlet g.W.Write.contents l.printer) l.count l.history
    × IsHandedOver (outlet g.W.Write.contents l.printer)
