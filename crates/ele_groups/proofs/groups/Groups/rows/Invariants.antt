use Rattle.std.proofs.Common.{◌≡◌, map}
use Rattle.ele_groups.proofs.groups.Groups.rows.Given as goal

abbrev pub invariant-loop-group : goal.invariant-loop-group
invariant-loop-group l = l.rows.items ≡ map (λ group. group.now) l.yielded
