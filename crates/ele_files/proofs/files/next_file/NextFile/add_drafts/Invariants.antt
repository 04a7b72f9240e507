use Rattle.ele_files.proofs.Words.{take, ◌≡◌}
use Rattle.std.proofs.Common.{drop}
use Rattle.ele_files.specs.Adding.{AreNextDrafts, with_drafts}
use Rattle.ele_files.proofs.files.next_file.NextFile.add_drafts.Given as goal

abbrev pub invariant-loop-row : goal.invariant-loop-row
invariant-loop-row l = record {
  added : l.next ≡ with_drafts l.fn.self (take l.row-index l.rows);
  left : AreNextDrafts l.next (drop l.row-index l.rows);
}
