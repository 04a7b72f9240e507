use Rattle.ele_blocks.proofs.Cited.{arith, release_leaves_backed, release_leaves_more, release_leaves_next}
use Rattle.ele_blocks.proofs.store.BlockStore.release_leaves.Goals as goal

pub release_leaf-requires : goal.release_leaf-requires
release_leaf-requires c = grind (arith, release_leaves_next c.args.leaves.now c.loop-leaf.leaf-index c.loop-leaf-test.true c.args.self.now c.loop-leaf.self c.loop-leaf.self, release_leaves_backed c.args.leaves.now c.loop-leaf.leaf-index c.loop-leaf-test.true c.args.self.now c.loop-leaf.self c.loop-leaf.self)

pub loop-leaf-preserved : goal.loop-leaf-preserved
loop-leaf-preserved c = release_leaves_more c.args.leaves.now c.loop-leaf.leaf-index c.loop-leaf-test.true c.args.self.now c.loop-leaf.self c.release_leaf.new.self c.requires.owned c.loop-leaf.invariant c.release_leaf.ensures
