use Rattle.ele_blocks.proofs.Words.{slots_in, take, ◌≡◌}
use Rattle.ele_blocks.proofs.store.BlockStore.slots_in.Given as goal

abbrev pub invariant-loop-leaf : goal.invariant-loop-leaf
invariant-loop-leaf l = l.slots.items ≡ slots_in l.self (take l.leaf-index l.leaves)
