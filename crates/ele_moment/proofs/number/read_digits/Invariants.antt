use Rattle.std.proofs.Common.{drop}
use Rattle.ele_moment.proofs.Numbers.{SoFar}
use Rattle.ele_moment.proofs.number.read_digits.Given as goal

-- the digits so far write the number
abbrev pub invariant-loop-byte : goal.invariant-loop-byte
invariant-loop-byte l = SoFar l.word (drop l.byte-index l.word) l.number
