use Rattle.std.proofs.Common.{◌-◌, ◌≤◌}
use Rattle.std.specs.Prelude.{vec_len}
use Rattle.ele_storm.proofs.flags.Flags.new.Given as goal

abbrev pub invariant-loop-up : goal.invariant-loop-up
invariant-loop-up l = vec_len l.up ≤ l.workers

abbrev pub decreases-loop-up : goal.decreases-loop-up
decreases-loop-up l = l.workers - vec_len l.up
