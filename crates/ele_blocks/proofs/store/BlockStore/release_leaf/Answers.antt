use Rattle.ele_blocks.proofs.Lemmas.{leaf_covered, leaf_goes, leaf_stays, Store}
use Rattle.ele_blocks.proofs.store.BlockStore.release_leaf.Goals as goal
use Rattle.ele_blocks.proofs.Cited.{arith}

pub release_all-requires : goal.release_all-requires
release_all-requires c = let s : Store = record { blocks = c.self.inside.blocks.slots; leaves = c.self.inside.leaves.slots } in grind (arith, c.self.view_is, c.as_slice.ensures, leaf_covered s s c.args.leaf)

pub returns-in-Some : goal.returns-in-Some
returns-in-Some c = let s : Store = record { blocks = c.self.inside.blocks.slots; leaves = c.self.inside.leaves.slots } in grind (arith, c.self.view_is, c.as_slice.ensures, leaf_goes s c.release_all.new.self c.args.leaf)

pub returns-in_default : goal.returns-in_default
returns-in_default c = let s : Store = record { blocks = c.self.inside.blocks.slots; leaves = c.self.inside.leaves.slots } in grind (arith, c.self.view_is, leaf_stays s (record { blocks = c.self.inside.blocks.slots; leaves = c.release.new.self.slots }) c.args.leaf)
