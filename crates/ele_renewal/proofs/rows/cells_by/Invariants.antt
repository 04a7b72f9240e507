use Rattle.ele_renewal.proofs.Words.{drop, ◌++◌, ◌≡◌}
use Rattle.ele_renewal.specs.Writers.{cells_by}
use Rattle.ele_renewal.proofs.rows.cells_by.Given as goal

-- the cells so far, followed by those of the rest, are those of all
abbrev pub invariant-loop-slot : goal.invariant-loop-slot
invariant-loop-slot l = l.fresh.items ++ cells_by l.known l.file l.slot (drop l.slot l.cells) ≡ cells_by l.known l.file 0 l.cells
