use Rattle.ele_blocks.proofs.Words.{ids_of, owners_at, take, times, ℕ, ◌<◌, ◌^◌}
use Rattle.ele_blocks.proofs.store.BlockStore.can_share.Given as goal

abbrev pub invariant-loop-slot : goal.invariant-loop-slot
invariant-loop-slot l = (id : ℕ) → 0 < times id (ids_of (take l.slot-index l.slots)) → owners_at l.self id < 2 ^ 62
