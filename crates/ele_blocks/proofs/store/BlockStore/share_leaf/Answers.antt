use Rattle.ele_blocks.proofs.Lemmas.{share_leaf, arith}
use Rattle.ele_blocks.proofs.store.BlockStore.share_leaf.Goals as goal

pub returns : goal.returns
returns c = grind (arith, c.self.view_is, c.share.ensures, share_leaf (record { blocks = c.self.inside.blocks.slots; leaves = c.self.inside.leaves.slots }) (record { blocks = c.self.inside.blocks.slots; leaves = c.share.new.self.slots }) c.args.leaf)
