use Rattle.ele_files.proofs.Lemmas.{map, stamps_in, ◌++◌, ◌≡◌}
use Rattle.ele_files.proofs.files.versions.log_stamps.Given as goal

abbrev pub invariant-loop-row : goal.invariant-loop-row
invariant-loop-row l = l.list.items ++ map stamps_in l.row-iterator ≡ map stamps_in l.file.log.rows
