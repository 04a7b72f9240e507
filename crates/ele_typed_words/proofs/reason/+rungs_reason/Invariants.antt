use Rattle.std.proofs.Common.{length}
use Rattle.ele_typed_words.proofs.reason.+rungs_reason.Given as goal

abbrev pub decreases-rungs_reason : goal.decreases-rungs_reason
decreases-rungs_reason l = length l.pairs.now
