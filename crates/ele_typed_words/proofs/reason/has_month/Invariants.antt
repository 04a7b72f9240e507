use Rattle.std.proofs.Common.{◌≡◌, length}
use Rattle.ele_typed_words.specs.Reason.{has_month}
use Rattle.ele_typed_words.proofs.reason.has_month.Given as goal

-- the rest is what has a month or hasn't
abbrev pub invariant-bytes : goal.invariant-bytes
invariant-bytes l = has_month l.rest ≡ has_month l.word

abbrev pub decreases-bytes : goal.decreases-bytes
decreases-bytes l = length l.rest
