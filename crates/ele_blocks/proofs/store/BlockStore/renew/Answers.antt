use Rattle.ele_blocks.proofs.Cited.{arith, HaveCome, renewed, was_backed}
use Rattle.ele_blocks.proofs.store.BlockStore.renew.Goals as goal
use Rattle.ele_blocks.proofs.store.BlockStore.renew.Goals.{After-put_leaves}

come : (c : After-put_leaves) → HaveCome c.args.self.now (record { blocks = c.lay_stage.new.blocks.slots; leaves = c.put_leaves.new.leaves.slots }) c.args.stage.window.items c.args.stage.first c.args.stage.writer c.args.stage.staged.items c.in_ok-slots.slots.items c.put_leaves.new.ids.items c.args.was.now
come c = grind (arith)

pub release_leaves-requires-clause-backed : goal.release_leaves-requires-clause-backed
release_leaves-requires-clause-backed c = was_backed (come (goal.at.release_leaves-requires-clause-backed c).After-put_leaves)

pub returns-clause-renewed : goal.returns-clause-renewed
returns-clause-renewed c = renewed (come (goal.at.returns-clause-renewed c).After-put_leaves) c.release_leaves.new.self c.release_leaves.ensures
