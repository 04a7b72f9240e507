use Rattle.ele_blocks.proofs.Cited.{arith, share_leaves_few, share_leaves_more, share_leaves_next}
use Rattle.ele_blocks.proofs.store.BlockStore.share_leaves.Goals as goal

pub share_leaf-requires : goal.share_leaf-requires
share_leaf-requires c = grind (arith, share_leaves_next c.args.leaves.now c.loop-leaf.leaf-index c.loop-leaf-test.true c.args.self.now c.loop-leaf.self c.loop-leaf.self, share_leaves_few c.args.leaves.now c.loop-leaf.leaf-index c.loop-leaf-test.true c.args.self.now c.loop-leaf.self c.loop-leaf.self)

pub loop-leaf-preserved : goal.loop-leaf-preserved
loop-leaf-preserved c = share_leaves_more c.args.leaves.now c.loop-leaf.leaf-index c.loop-leaf-test.true c.args.self.now c.loop-leaf.self c.share_leaf.new.self c.loop-leaf.invariant c.share_leaf.ensures
