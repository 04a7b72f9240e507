use Rattle.std.proofs.Common.{arith, ◌++◌}
use Rattle.ele_checkpoint.specs.Cells.{content_text}
use Rattle.ele_checkpoint.proofs.Loops.{content_start, put_more}
use Rattle.ele_checkpoint.proofs.content.put_content.Goals as goal

pub loop-slot-init : goal.loop-slot-init
loop-slot-init c = record { written = content_start c.args.base.now c.args.cells.now c.args.out.now.items _ c.in_ok-put_number.ensures; few = omega arith }

pub loop-slot-preserved : goal.loop-slot-preserved
loop-slot-preserved c = put_more c.args.base.now c.args.cells.now c.loop-slot.slot c.loop-slot.kept c.index-cells-slot.result c.loop-slot.out.items c.put_slot.new.out.items (c.args.out.now.items ++ content_text c.args.base.now c.args.cells.now) c.in_ok-kept.kept c.loop-slot-test.true c.index-cells-slot.is (rw (← c.cell_in.ensures) c.in_ok-kept.ensures) c.loop-slot.invariant
