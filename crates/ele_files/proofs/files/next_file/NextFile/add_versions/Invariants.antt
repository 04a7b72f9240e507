use Rattle.ele_files.proofs.Words.{take, ◌≡◌}
use Rattle.std.proofs.Common.{drop}
use Rattle.ele_files.specs.Adding.{AreNextVersions, with_versions}
use Rattle.ele_files.proofs.files.next_file.NextFile.add_versions.Given as goal

abbrev pub invariant-loop-row : goal.invariant-loop-row
invariant-loop-row l = record {
  added : l.next ≡ with_versions l.fn.self (take l.row-index l.rows);
  left : AreNextVersions l.next (drop l.row-index l.rows);
}
