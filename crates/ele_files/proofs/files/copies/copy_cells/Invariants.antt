use Rattle.ele_files.proofs.Lemmas.{cell_of, map, slots_of, take, ◌≡◌}
use Rattle.ele_files.proofs.files.copies.copy_cells.Given as goal

abbrev pub invariant-loop-slot : goal.invariant-loop-slot
invariant-loop-slot l = l.cells.items ≡ map (cell_of l.store) (take l.slot (slots_of l.store l.map))
