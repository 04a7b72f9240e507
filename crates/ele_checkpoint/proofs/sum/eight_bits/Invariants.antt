use Rattle.std.proofs.Common.{◌≡◌, ◌-◌}
use Rattle.ele_checkpoint.specs.Sum.{times}
use Rattle.ele_checkpoint.proofs.sum.eight_bits.Given as goal

abbrev pub invariant-loop : goal.invariant-loop
invariant-loop l = times (8 - l.counter) l.state ≡ times 8 l.byte
