use Rattle.ele_blocks.proofs.Lemmas.{HasRoomFor, into_iter_items, into_iter_len, length, vec_capacity, vec_len, ◌+◌, ◌<◌, ◌^◌, ◌≡◌, ◌≤◌}
use Rattle.ele_blocks.proofs.Makings.{MadeSoFar}
use Rattle.ele_blocks.specs.Making.{CanMake}
use Rattle.std.specs.List.{AllByRecursion}
use Rattle.ele_blocks.proofs.store.making.make_each.Given as goal

abbrev pub invariant-loop-slot : goal.invariant-loop-slot
invariant-loop-slot l = record {
  so_far : MadeSoFar l.initial.blocks.slots l.blocks.slots l.made.items (into_iter_items l.slot-iterator) l.fn.slots.items;
  ready : AllByRecursion (CanMake l.initial.blocks.slots) (into_iter_items l.slot-iterator);
  left : into_iter_len l.slot-iterator ≡ length (into_iter_items l.slot-iterator);
  few : vec_len l.made + into_iter_len l.slot-iterator < 2 ^ 61;
  room : HasRoomFor l.blocks (into_iter_len l.slot-iterator);
  numbers : l.blocks.capacity ≤ 2 ^ 32;
  room_made : vec_len l.made + into_iter_len l.slot-iterator ≤ vec_capacity l.made;
}
