use Rattle.ele_well_formed.proofs.Words.{drop, fill_slots, ◌≡◌}
use Rattle.ele_well_formed.proofs.content.fill_slots.Given as goal

abbrev pub invariant-loop-cell : goal.invariant-loop-cell
invariant-loop-cell l = fill_slots l.left (drop l.cell-index l.cells) ≡ fill_slots l.bytes l.cells
