use Rattle.ele_blocks.proofs.Words.{take}
use Rattle.ele_blocks.specs.Making.{CanMake}
use Rattle.std.specs.List.{AllByRecursion}
use Rattle.ele_blocks.proofs.store.making.can_make.Given as goal

abbrev pub invariant-loop-slot : goal.invariant-loop-slot
invariant-loop-slot l = AllByRecursion (CanMake l.blocks.slots) (take l.slot-index l.slots)
