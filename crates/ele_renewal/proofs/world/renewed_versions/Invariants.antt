use Rattle.ele_renewal.proofs.Words.{map, renewed_version, take, ◌≡◌}
use Rattle.ele_renewal.proofs.world.renewed_versions.Given as goal

abbrev pub invariant-loop-row : goal.invariant-loop-row
invariant-loop-row l = l.fresh.items ≡ map (renewed_version l.flat) (take l.row-index l.rows)
