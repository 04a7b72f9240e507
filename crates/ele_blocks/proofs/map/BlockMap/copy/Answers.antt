use Rattle.ele_blocks.proofs.Lemmas.{moved_copy}
use Rattle.ele_blocks.proofs.map.BlockMap.copy.Goals as goal

pub returns-clause-moves : goal.returns-clause-moves
returns-clause-moves c = rw (← c.self.view_is) (moved_copy c.args.store.now c.share_leaves.new.self _ (rw (← c.self.view_is) at c.requires.lives) (rw c.as_slice.ensures at c.share_leaves.ensures))
