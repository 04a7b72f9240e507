use Rattle.std.proofs.Common.{◌≡◌, drop}
use Rattle.ele_checkpoint.specs.Sum.{after}
use Rattle.ele_checkpoint.proofs.sum.crc32c.Given as goal

abbrev pub invariant-loop-byte : goal.invariant-loop-byte
invariant-loop-byte l = after l.state (drop l.byte-index l.bytes) ≡ after 4294967295 l.bytes
