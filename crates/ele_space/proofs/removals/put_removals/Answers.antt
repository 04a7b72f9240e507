use Rattle.std.proofs.Common.{arith}
use Rattle.std.specs.List.{flat_map}
use Rattle.ele_output.proofs.Lists.{list_done, list_more}
use Rattle.ele_space.specs.Removals.{due_line}
use Rattle.ele_space.specs.declared.removals.Removals.{Removals}
use Rattle.ele_space.proofs.removals.put_removals.Goals as goal

pub loop-removal-preserved : goal.loop-removal-preserved
loop-removal-preserved g c =
    list_more (λ (removal : Removals). flat_map (due_line c.args.named c.args.details.now removal.word.items) removal.due.items) c.args.removals.now c.loop-removal.removal-index c.removal-item.result (omega arith) c.removal-item.is c.loop-removal.invariant (rw (c.as_slice-word.ensures.value, c.as_slice.ensures.value) at c.put_due.ensures)

pub returns : goal.returns
returns g c = list_done (λ (removal : Removals). flat_map (due_line c.args.named c.args.details.now removal.word.items) removal.due.items) c.args.removals.now c.loop-removal.removal-index c.loop-removal-test.false c.loop-removal.invariant
