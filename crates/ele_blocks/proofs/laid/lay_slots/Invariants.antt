use Rattle.ele_blocks.proofs.Words.{laid_over, map, slot_by, take, vec_capacity, ◌≡◌, ◌≤◌}
use Rattle.ele_blocks.proofs.laid.lay_slots.Given as goal

abbrev pub invariant-loop-i : goal.invariant-loop-i
invariant-loop-i l = record {
  items : l.slots.items ≡ laid_over l.fn.first (map (slot_by l.fn.writer) (take l.i l.ids)) l.initial.slots.items;
  room : vec_capacity l.initial.slots ≤ vec_capacity l.slots;
}
