use Rattle.ele_blocks.proofs.Cited.{arith, get_or, one_more}
use Rattle.ele_blocks.proofs.store.BlockStore.slots_in.Goals as goal

pub leaf-requires : goal.leaf-requires
leaf-requires c = omega (arith, one_more c.args.leaves.now c.loop-leaf.leaf-index c.loop-leaf-test.true, c.requires.owned (get_or c.args.leaves.now c.loop-leaf.leaf-index 0))
