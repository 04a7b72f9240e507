use Rattle.ele_blocks.proofs.Words.{arith}
use Rattle.ele_blocks.proofs.Makings.{HavePut, put}
use Rattle.ele_blocks.proofs.store.BlockStore.put_slots.Goals as goal
use Rattle.ele_blocks.proofs.store.BlockStore.put_slots.Goals.{After-put_leaves}

have : (c : After-put_leaves) → HavePut c.args.self.now (record { blocks = c.make_each.new.blocks.slots; leaves = c.put_leaves.new.leaves.slots }) c.args.slots.items c.make_each.new.made.items c.put_leaves.new.ids.items
have c = grind (arith)

pub returns-clause-put : goal.returns-clause-put
returns-clause-put c = put (have (goal.at.returns-clause-put c).After-put_leaves)
