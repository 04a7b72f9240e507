use Rattle.std.proofs.Common.{◌≡◌, ◌<◌, drop}
use Rattle.ele_policy.specs.Ladder.{ground, climbs}
use Rattle.ele_policy.proofs.ladder.climbs.Given as goal

abbrev pub invariant-loop-rung : goal.invariant-loop-rung
invariant-loop-rung l = (climbs ground l.rungs ≡ climbs l.low (drop l.rung-index l.rungs)) × (0 < l.low.1)
