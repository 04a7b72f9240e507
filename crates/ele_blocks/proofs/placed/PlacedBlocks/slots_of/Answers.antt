use Rattle.ele_blocks.proofs.Words.{arith}
use Rattle.ele_blocks.proofs.Founds.{with_next}
use Rattle.ele_blocks.proofs.placed.PlacedBlocks.slots_of.Goals as goal

pub loop-slot-preserved : goal.loop-slot-preserved
loop-slot-preserved c = grind (arith, with_next c.args.self.now c.args.cells.now c.loop-slot.slot)
