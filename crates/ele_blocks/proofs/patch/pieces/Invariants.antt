use Rattle.ele_blocks.proofs.Words.{first_chunks, length, slot_count, ◌++◌, ◌-◌, ◌≡◌}
use Rattle.ele_blocks.proofs.patch.pieces.Given as goal

abbrev pub invariant-loop : goal.invariant-loop
invariant-loop l = record {
  are : l.cut.items ++ first_chunks 512 (l.count - l.counter) l.rest ≡ first_chunks 512 (slot_count (length l.all)) l.all;
  count : l.count - l.counter ≡ slot_count (length l.rest);
}
