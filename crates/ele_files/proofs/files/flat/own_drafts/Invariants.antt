use Rattle.ele_files.proofs.Words.{◌+◌, ◌≡◌}
use Rattle.std.proofs.Common.{drop}
use Rattle.ele_files.specs.Adding.{own_length}
use Rattle.ele_files.proofs.files.flat.own_drafts.Given as goal

abbrev pub invariant-loop-row : goal.invariant-loop-row
invariant-loop-row l = record {
  count : l.count ≡ l.row-index;
  rest : own_length (λ row. row.file) l.file l.rows ≡ l.count + own_length (λ row. row.file) l.file (drop l.row-index l.rows);
}
