use Rattle.std.specs.Prelude.{drop}
use Rattle.std.specs.List.{flat_map}
use Rattle.ele_output.specs.Prints.{outlet}
use Rattle.ele_output.proofs.Known.{HasPut}
use Rattle.ele_space.specs.Removals.{due_line}
use Rattle.ele_space.proofs.removals.put_due.Given as goal

-- the lines so far are put, and the others are left
abbrev pub invariant-loop-staying : goal.invariant-loop-staying
invariant-loop-staying g l =
    HasPut (outlet g.W.Write.contents l.fn.printer) (outlet g.W.Write.contents l.printer) (flat_map (due_line l.named l.details l.word) l.due) (flat_map (due_line l.named l.details l.word) (drop l.staying-index l.due))
