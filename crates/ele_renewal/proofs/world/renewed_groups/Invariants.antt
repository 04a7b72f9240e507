use Rattle.ele_renewal.proofs.Words.{map, renewed_group, take, ◌≡◌}
use Rattle.ele_renewal.proofs.world.renewed_groups.Given as goal

abbrev pub invariant-loop-row : goal.invariant-loop-row
invariant-loop-row l = l.fresh.items ≡ map (renewed_group l.flat) (take l.row-index l.rows)
