use Rattle.ele_blocks.proofs.Words.{arith, nat_tests}
use Rattle.ele_blocks.proofs.Makings.{all_more}
use Rattle.ele_blocks.specs.Making.{CanMake}
use Rattle.ele_blocks.proofs.store.making.can_make.Goals as goal

pub loop-slot-preserved : goal.loop-slot-preserved
loop-slot-preserved c = all_more (CanMake c.args.blocks.now.slots) c.args.slots.now c.loop-slot.slot-index c.slot-item.result c.loop-slot-test.true c.slot-item.is c.loop-slot.invariant (grind (arith, nat_tests))
