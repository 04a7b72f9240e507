use Rattle.ele_blocks.proofs.Cited.{arith, slot_found, slot_owned, slots-count}
use Rattle.ele_blocks.proofs.map.BlockMap.slot_at.Goals as goal

pub returns-clause-owned : goal.returns-clause-owned
returns-clause-owned c = grind (arith, slot_found, slots-count, slot_owned c.args.store.now c.args.self.now c.requires.lives c.args.slot c.index-leaf-slot.result)
