use Rattle.std.proofs.Common.{ℕ, ◌+◌, length}
use Rattle.ele_reasons.proofs.reasons.+behind.Given as goal

abbrev pub decreases-put_behind : goal.decreases-put_behind
decreases-put_behind g l = length l.kinds.now + length l.kinds.now

abbrev pub decreases-put_more : goal.decreases-put_more
decreases-put_more g l = length l.kinds.now + length l.kinds.now + 1
