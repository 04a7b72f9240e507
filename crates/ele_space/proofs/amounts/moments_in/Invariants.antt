use Rattle.std.proofs.Common.{◌≡◌, map, take}
use Rattle.ele_forecast_forms.specs.declared.counts.Counts.{Counts}
use Rattle.ele_space.proofs.amounts.moments_in.Given as goal

-- those of the rows so far
abbrev pub invariant-loop-row : goal.invariant-loop-row
invariant-loop-row l = l.moments.items ≡ map (λ (row : Counts). row.at) (take l.row-index l.rows)
