use Rattle.ele_blocks.proofs.Words.{List, Named, names_from, slots_of, take, ℕ, ◌++◌}
use Rattle.ele_blocks.specs.Placed.{Finds}
use Rattle.ele_blocks.proofs.placed.PlacedBlocks.add.Given as goal

abbrev pub invariant-loop-slot : goal.invariant-loop-slot
invariant-loop-slot l = (file : ℕ) (names : List Named) → Finds l.initial.self file names → Finds l.self file (names_from file 0 (take l.slot (slots_of l.store l.map)) ++ names)
