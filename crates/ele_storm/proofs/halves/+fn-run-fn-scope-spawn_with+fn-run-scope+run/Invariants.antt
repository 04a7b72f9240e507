use Rattle.std.proofs.Common.{◌+◌, ◌-◌, ◌*◌}
use Rattle.ele_storm.proofs.halves.+fn-run-fn-scope-spawn_with+fn-run-scope+run.Given as goal

abbrev pub decreases-scope-spawn_with : goal.decreases-scope-spawn_with
decreases-scope-spawn_with g l = 3 * (l.count - l.half) + 1

abbrev pub decreases-scope : goal.decreases-scope
decreases-scope g l = 3 * l.count - 1

abbrev pub decreases-run : goal.decreases-run
decreases-run g l = 3 * l.count
