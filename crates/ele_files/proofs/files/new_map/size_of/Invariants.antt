use Rattle.ele_files.proofs.Words.{content_of, length, ◌+◌, ◌≡◌}
use Rattle.std.proofs.Common.{drop}
use Rattle.ele_files.proofs.files.new_map.size_of.Given as goal

abbrev pub invariant-loop-cell : goal.invariant-loop-cell
invariant-loop-cell l = l.size + length (content_of (drop l.cell-index l.cells)) ≡ length (content_of l.cells)
