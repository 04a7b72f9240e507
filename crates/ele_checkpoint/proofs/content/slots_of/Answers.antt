use Rattle.std.proofs.Common.{arith}
use Rattle.ele_checkpoint.specs.PartsRead.{slots_at}
use Rattle.ele_checkpoint.proofs.Loops.{slots_go_on, slots_end, slots_done, slots_left}
use Rattle.ele_checkpoint.proofs.content.slots_of.Goals as goal

pub returns-in-Err : goal.returns-in-Err
returns-in-Err c = slots_end c.args.base.now c.in-Err.stop c.loop-slot.cells.items c.args.count c.loop-slot.slot c.loop-slot.kept c.loop-slot.rest.now (slots_at c.args.base.now c.args.count 0 c.args.kept c.args.bytes.now) c.loop-slot-test.true (rw (← c.cell_in.ensures) c.in-Err.ensures) c.loop-slot.invariant

pub loop-slot-preserved : goal.loop-slot-preserved
loop-slot-preserved c = rw c.in_ok-push.ensures.items (slots_go_on c.args.base.now c.loop-slot.cells.items c.args.count c.loop-slot.slot c.loop-slot.kept c.loop-slot.rest.now c.in-Ok.found.0.0 c.in-Ok.found.0.1 c.in-Ok.found.1.now (slots_at c.args.base.now c.args.count 0 c.args.kept c.args.bytes.now) c.loop-slot-test.true (rw (← c.cell_in.ensures) c.in-Ok.ensures) c.loop-slot.invariant)

pub returns-then-kept-ne0 : goal.returns-then-kept-ne0
returns-then-kept-ne0 c = rw c.wrong.ensures (slots_left c.args.base.now c.loop-slot.cells.items c.args.count c.loop-slot.slot c.loop-slot.kept c.loop-slot.rest.now (slots_at c.args.base.now c.args.count 0 c.args.kept c.args.bytes.now) c.loop-slot-test.false c.if-kept-ne0.true c.loop-slot.invariant)

pub returns : goal.returns
returns c = slots_done c.args.base.now c.loop-slot.cells.items c.args.count c.loop-slot.slot c.loop-slot.kept c.loop-slot.rest.now (slots_at c.args.base.now c.args.count 0 c.args.kept c.args.bytes.now) c.loop-slot-test.false (omega arith) c.loop-slot.invariant
