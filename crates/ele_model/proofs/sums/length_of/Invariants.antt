use Rattle.ele_model.proofs.Basics.{◌≡◌, ◌+◌, length, drop}
use Rattle.ele_model.proofs.Words.{content_of}
use Rattle.ele_model.proofs.sums.length_of.Given as goal

abbrev pub invariant-loop-cell : goal.invariant-loop-cell
invariant-loop-cell l = l.bytes + length (content_of (drop l.cell-index l.cells)) ≡ length (content_of l.cells)
