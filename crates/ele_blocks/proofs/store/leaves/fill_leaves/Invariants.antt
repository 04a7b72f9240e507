use Rattle.ele_blocks.proofs.Lemmas.{backing, first_chunks, HasRoomFor, ids_of, into_iter_items, into_iter_len, leaf_count, length, parts, PutsSoFar, times, vec_capacity, ℕ, ◌+◌, ◌^◌, ◌≡◌, ◌≤◌}
use Rattle.ele_blocks.proofs.store.leaves.fill_leaves.Given as goal

abbrev pub invariant-loop-room : goal.invariant-loop-room
invariant-loop-room l = record {
  puts : PutsSoFar l.initial.leaves.slots l.leaves.slots l.ids.items (first_chunks 16 (into_iter_len l.room-iterator) l.rest) (parts l.slots);
  left : into_iter_len l.room-iterator ≡ leaf_count (length l.rest);
  size : into_iter_len l.room-iterator ≡ length (into_iter_items l.room-iterator);
  room : HasRoomFor l.leaves (into_iter_len l.room-iterator);
  numbers : l.leaves.capacity ≤ 2 ^ 32;
  room_ids : length l.ids.items + into_iter_len l.room-iterator ≤ vec_capacity l.ids;
  backing : (id : ℕ) → backing l.leaves.slots id + times id (ids_of l.rest) ≡ backing l.initial.leaves.slots id + times id (ids_of l.slots);
}
