use Rattle.ele_blocks.proofs.Words.{vec_len, ◌≡◌}
use Rattle.ele_blocks.proofs.store.leaves.rooms_for.Given as goal

abbrev pub invariant-loop : goal.invariant-loop
invariant-loop l = vec_len l.rooms ≡ l.counter
