use Rattle.std.specs.Prelude.{drop}
use Rattle.std.specs.List.{flat_map}
use Rattle.ele_output.specs.Prints.{outlet}
use Rattle.ele_output.proofs.Known.{HasPut}
use Rattle.ele_space.specs.AmountsText.{amounts_line}
use Rattle.ele_space.proofs.text.put_rows.Given as goal

-- the lines so far are put, and the others are left
abbrev pub invariant-loop-row : goal.invariant-loop-row
invariant-loop-row g l =
    HasPut (outlet g.W.Write.contents l.fn.printer) (outlet g.W.Write.contents l.printer) (flat_map (amounts_line l.mark l.sizes) l.rows) (flat_map (amounts_line l.mark l.sizes) (drop l.row-index l.rows))
