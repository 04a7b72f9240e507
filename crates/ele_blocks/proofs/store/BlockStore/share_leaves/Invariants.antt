use Rattle.ele_blocks.proofs.Words.{Hands, take, times}
use Rattle.ele_blocks.proofs.store.BlockStore.share_leaves.Given as goal

abbrev pub invariant-loop-leaf : goal.invariant-loop-leaf
invariant-loop-leaf l = Hands l.initial.self l.self (λ leaf. 0) (λ leaf. times leaf (take l.leaf-index l.leaves))
