use Rattle.std.proofs.Common.{◌≡◌, length}
use Rattle.ele_tool_words.specs.ReadParts.{after_digits}
use Rattle.ele_tool_words.proofs.fraction.after_digits.Given as goal

-- the same follows the rest
abbrev pub invariant-digits : goal.invariant-digits
invariant-digits l = after_digits l.rest ≡ after_digits l.word

abbrev pub decreases-digits : goal.decreases-digits
decreases-digits l = length l.rest
