use Rattle.ele_blocks.proofs.Words.{laid_over, take, vec_capacity, ◌≡◌, ◌≤◌}
use Rattle.ele_blocks.proofs.laid.lay_leaves.Given as goal

abbrev pub invariant-loop-i : goal.invariant-loop-i
invariant-loop-i l = record {
  items : l.leaves.items ≡ laid_over l.fn.first (take l.i l.ids) l.initial.leaves.items;
  room : vec_capacity l.initial.leaves ≤ vec_capacity l.leaves;
}
