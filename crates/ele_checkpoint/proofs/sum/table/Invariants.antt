use Rattle.std.proofs.Common.{◌≡◌, ℕ, ◌<◌, get_or, length}
use Rattle.ele_checkpoint.specs.Sum.{times}
use Rattle.ele_checkpoint.proofs.sum.table.Given as goal

-- the entries so far
abbrev pub invariant-loop-byte : goal.invariant-loop-byte
invariant-loop-byte l = (length l.table ≡ 256) × ((k : ℕ) → k < l.byte → get_or l.table k 0 ≡ times 8 k)
