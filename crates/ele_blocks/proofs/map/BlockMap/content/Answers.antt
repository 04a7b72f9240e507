use Rattle.ele_blocks.proofs.Cited.{arith, content_of, shown, take-add, ◌*◌}
use Rattle.ele_blocks.proofs.map.BlockMap.content.Goals as goal

pub loop-slot-preserved : goal.loop-slot-preserved
loop-slot-preserved c = grind (arith, c.loop-slot.invariant, c.bytes_at.ensures, take-add (512 * c.loop-slot.slot) 512 (content_of (shown c.args.store.now c.args.self.now)))
