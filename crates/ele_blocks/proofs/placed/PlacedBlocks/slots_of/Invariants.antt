use Rattle.ele_blocks.proofs.Words.{take, ◌≡◌}
use Rattle.ele_blocks.specs.Placed.{slots_with}
use Rattle.ele_blocks.proofs.placed.PlacedBlocks.slots_of.Given as goal

abbrev pub invariant-loop-slot : goal.invariant-loop-slot
invariant-loop-slot l = l.slots.items ≡ slots_with l.self 0 (take l.slot l.cells)
