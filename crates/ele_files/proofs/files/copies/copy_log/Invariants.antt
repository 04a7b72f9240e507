use Rattle.ele_files.proofs.Lemmas.{AllByRecursion, LivesIn, LogRow, map, row_in, rows_in, ◌++◌, ◌≡◌}
use Rattle.ele_files.proofs.files.copies.copy_log.Given as goal

abbrev pub invariant-loop-row : goal.invariant-loop-row
invariant-loop-row l = record {
  lives : AllByRecursion (λ (row : LogRow). LivesIn l.store row.cells) l.row-iterator;
  copied : l.rows.items ++ map (row_in l.store l.file.id) l.row-iterator ≡ l.fn.rows.items ++ rows_in l.store l.file;
}
