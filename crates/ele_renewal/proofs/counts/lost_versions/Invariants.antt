use Rattle.ele_renewal.proofs.Words.{filter, has_lost_last, length, take, ◌≡◌}
use Rattle.ele_renewal.proofs.counts.lost_versions.Given as goal

abbrev pub invariant-loop-file : goal.invariant-loop-file
invariant-loop-file l = l.lost ≡ length (filter (has_lost_last l.flat) (take l.file-index l.files))
