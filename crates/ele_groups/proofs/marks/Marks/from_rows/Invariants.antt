use Rattle.ele_groups.proofs.Basics.{◌≡◌, take}
use Rattle.ele_groups.proofs.marks.Marks.from_rows.Given as goal

abbrev pub invariant-loop-mark : goal.invariant-loop-mark
invariant-loop-mark l = l.marks ≡ take l.mark-index l.rows
