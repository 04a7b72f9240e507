use Rattle.std.proofs.Common.{length}
use Rattle.ele_reasons.proofs.policy_detail.+rungs_detail.Given as goal

abbrev pub decreases-rungs_detail : goal.decreases-rungs_detail
decreases-rungs_detail l = length l.pairs.now
