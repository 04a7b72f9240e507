use Rattle.std.specs.List.{sum_by}
use Rattle.ele_renewal.proofs.Words.{length, min, take, ◌≡◌}
use Rattle.ele_renewal.proofs.counts.members_held.Given as goal

abbrev pub invariant-loop-group : goal.invariant-loop-group
invariant-loop-group l = l.held ≡ min (sum_by (λ row. length row.members) (take l.group-index l.groups)) l.most
