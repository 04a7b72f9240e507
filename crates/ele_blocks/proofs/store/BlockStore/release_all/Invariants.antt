use Rattle.ele_blocks.proofs.Words.{[], ids_of, take, Trades, ◌≡◌}
use Rattle.ele_blocks.proofs.store.BlockStore.release_all.Given as goal

abbrev pub invariant-loop-slot : goal.invariant-loop-slot
invariant-loop-slot l = record {
  trades : Trades l.initial.self.blocks l.self.blocks (ids_of (take l.slot-index l.slots)) [];
  leaves : l.self.leaves ≡ l.initial.self.leaves;
}
