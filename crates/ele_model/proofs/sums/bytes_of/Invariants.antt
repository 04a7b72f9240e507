use Rattle.ele_model.proofs.Basics.{◌≡◌, ◌+◌, drop, filter}
use Rattle.ele_model.proofs.Words.{bytes_in, is_file_of}
use Rattle.ele_model.proofs.sums.bytes_of.Given as goal

abbrev pub invariant-loop-row : goal.invariant-loop-row
invariant-loop-row l = l.bytes + bytes_in (filter (λ row. is_file_of l.files l.kind row.file) (drop l.row-index l.versions)) ≡ bytes_in (filter (λ row. is_file_of l.files l.kind row.file) l.versions)
