use Rattle.std.proofs.Common.{length}
use Rattle.ele_reasons.proofs.bad_word.+bad_word.Given as goal

abbrev pub decreases-bad_word : goal.decreases-bad_word
decreases-bad_word l = length l.kinds.now
