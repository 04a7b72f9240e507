use Rattle.ele_printer.proofs.Basics.{drop, flat_map}
use Rattle.ele_printer.proofs.Prelude.{outlet}
use Rattle.ele_output.proofs.Known.{HasPut}
use Rattle.ele_printer.proofs.row.put_lines.Given as goal

-- the lines of the rows so far are printed, and the others are left
abbrev pub invariant-loop-row : goal.invariant-loop-row
invariant-loop-row g l =
    HasPut (outlet g.W.Write.contents l.fn.printer) (outlet g.W.Write.contents l.printer) (flat_map g.T.Row.row_line l.rows) (flat_map g.T.Row.row_line (drop l.row-index l.rows))
