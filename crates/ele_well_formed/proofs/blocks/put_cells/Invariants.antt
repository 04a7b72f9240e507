use Rattle.ele_well_formed.proofs.KnownBytes.{PutsSome}
use Rattle.ele_well_formed.proofs.blocks.put_cells.Given as goal

abbrev pub invariant-loop-slot : goal.invariant-loop-slot
invariant-loop-slot l = PutsSome l.initial.known l.known l.file l.cells l.slot
