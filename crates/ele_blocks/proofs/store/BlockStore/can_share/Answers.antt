use Rattle.ele_blocks.proofs.Cited.{arith, nat_tests, slot_next}
use Rattle.ele_blocks.proofs.store.BlockStore.can_share.Goals as goal

pub loop-slot-preserved : goal.loop-slot-preserved
loop-slot-preserved c = λ id some. grind (arith, nat_tests, slot_next c.args.slots.now c.loop-slot.slot-index c.slot-item.result c.loop-slot-test.true c.slot-item.is id, c.loop-slot.invariant id, c.owners.ensures)
