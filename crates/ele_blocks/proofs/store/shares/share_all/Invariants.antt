use Rattle.ele_blocks.proofs.Words.{[], ids_of, take, Trades}
use Rattle.ele_blocks.proofs.store.shares.share_all.Given as goal

abbrev pub invariant-loop-slot : goal.invariant-loop-slot
invariant-loop-slot l = Trades l.initial.blocks.slots l.blocks.slots [] (ids_of (take l.slot-index l.slots))
