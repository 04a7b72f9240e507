use Rattle.ele_well_formed.proofs.Words.{content_of, drop, length, longest_content, ◌+◌, ◌≡◌, ◌≤◌}
use Rattle.ele_well_formed.proofs.content.length_of.Given as goal

abbrev pub invariant-loop-cell : goal.invariant-loop-cell
invariant-loop-cell l = record {
  few : l.bytes ≤ longest_content;
  all : l.bytes + length (content_of (drop l.cell-index l.cells)) ≡ length (content_of l.cells);
}
