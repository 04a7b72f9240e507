use Rattle.ele_files.proofs.Lemmas.{flat_map, rows_in, take, ◌≡◌}
use Rattle.ele_files.proofs.files.Files.version_rows.Given as goal

abbrev pub invariant-loop-file : goal.invariant-loop-file
invariant-loop-file l = l.rows.items ≡ flat_map (rows_in l.self-inside.store) (take l.file-index l.file-items)
