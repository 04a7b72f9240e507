use Rattle.std.specs.Prelude.{drop}
use Rattle.std.specs.List.{flat_map}
use Rattle.ele_output.specs.Prints.{outlet}
use Rattle.ele_output.proofs.Known.{HasPut}
use Rattle.ele_space.specs.Removals.{due_line, removals_text}
use Rattle.ele_space.specs.declared.removals.Removals.{Removals}
use Rattle.ele_space.proofs.removals.put_removals.Given as goal

-- the lines of the policies so far are put, and the others are left
abbrev pub invariant-loop-removal : goal.invariant-loop-removal
invariant-loop-removal g l =
    HasPut (outlet g.W.Write.contents l.fn.printer) (outlet g.W.Write.contents l.printer) (removals_text l.named l.details l.removals) (flat_map (λ (removal : Removals). flat_map (due_line l.named l.details removal.word.items) removal.due.items) (drop l.removal-index l.removals))
