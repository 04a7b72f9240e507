use Rattle.ele_removals.proofs.Basics.{drop, flat_map}
use Rattle.ele_removals.specs.ExpiringText.{expiry_line}
use Rattle.ele_output.proofs.Known.{HasPut}
use Rattle.ele_output.specs.Prints.{outlet}
use Rattle.ele_removals.proofs.expiring_text.put_lines.Given as goal

-- the lines so far are put, and the others are left
abbrev pub invariant-loop-row : goal.invariant-loop-row
invariant-loop-row g l =
    HasPut (outlet g.W.Write.contents l.fn.printer) (outlet g.W.Write.contents l.printer) (flat_map expiry_line l.rows) (flat_map expiry_line (drop l.row-index l.rows))
