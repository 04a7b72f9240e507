use Rattle.ele_renewal.proofs.Words.{map, renewed_directory, take, ◌≡◌}
use Rattle.ele_renewal.proofs.world.renewed_directories.Given as goal

abbrev pub invariant-loop-row : goal.invariant-loop-row
invariant-loop-row l = l.fresh.items ≡ map (renewed_directory l.flat) (take l.row-index l.rows)
