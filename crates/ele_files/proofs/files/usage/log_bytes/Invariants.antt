use Rattle.ele_files.proofs.Lemmas.{log_bytes, ◌+◌, ◌≡◌}
use Rattle.ele_files.proofs.files.usage.log_bytes.Given as goal

abbrev pub invariant-loop-row : goal.invariant-loop-row
invariant-loop-row l = l.bytes + log_bytes l.row-iterator ≡ log_bytes l.file.log.rows
