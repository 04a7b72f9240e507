use Rattle.ele_files.proofs.Lemmas.{arith, cell_next, nat_tests}
use Rattle.ele_files.proofs.files.copies.copy_cells.Goals as goal
use Rattle.std.proofs.lemmas.Grind.{common_steps, elements}

pub unreachable-requires : goal.unreachable-requires
unreachable-requires c = grind (arith, elements)

pub loop-slot-preserved : goal.loop-slot-preserved
loop-slot-preserved c = grind (arith, nat_tests, cell_next)

pub returns : goal.returns
returns c = grind (arith, common_steps)
