use Rattle.ele_blocks.proofs.Lemmas.{HasRoomFor, into_iter_items, into_iter_len, length, PutsSoFar, vec_capacity, vec_len, ◌+◌, ◌^◌, ◌≡◌, ◌≤◌}
use Rattle.ele_blocks.proofs.shared.put_each.Given as goal

abbrev pub invariant-loop-value : goal.invariant-loop-value
invariant-loop-value g l = record {
  puts : PutsSoFar l.initial.store.slots l.store.slots l.ids.items (into_iter_items l.value-iterator) l.fn.values.items;
  left : into_iter_len l.value-iterator ≡ length (into_iter_items l.value-iterator);
  room : HasRoomFor l.store (into_iter_len l.value-iterator);
  numbers : l.store.capacity ≤ 2 ^ 32;
  room_ids : vec_len l.ids + into_iter_len l.value-iterator ≤ vec_capacity l.ids;
}
