use Rattle.ele_files.proofs.Lemmas.{file_row, map, take, ◌≡◌}
use Rattle.ele_files.proofs.files.Files.file_rows.Given as goal

abbrev pub invariant-loop-file : goal.invariant-loop-file
invariant-loop-file l = l.rows.items ≡ map file_row (take l.file-index l.file-items)
