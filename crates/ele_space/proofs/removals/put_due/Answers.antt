use Rattle.std.proofs.Common.{arith}
use Rattle.ele_output.proofs.Known.{puts_then}
use Rattle.ele_output.proofs.Lists.{list_done, list_more}
use Rattle.ele_space.specs.Removals.{due_line}
use Rattle.ele_space.proofs.removals.put_due.Goals as goal

pub loop-staying-preserved : goal.loop-staying-preserved
loop-staying-preserved g c =
    let line = puts_then c.put.ensures (puts_then (rw c.stamp_of.ensures at c.put-in-loop-staying.ensures) (puts_then c.put_word_if.ensures (rw c.as_slice.ensures.value at c.put_freed.ensures))) in
    list_more (due_line c.args.named c.args.details.now c.args.word.now) c.args.due.now c.loop-staying.staying-index c.staying-item.result (omega arith) c.staying-item.is c.loop-staying.invariant line

pub returns : goal.returns
returns g c = list_done (due_line c.args.named c.args.details.now c.args.word.now) c.args.due.now c.loop-staying.staying-index c.loop-staying-test.false c.loop-staying.invariant
