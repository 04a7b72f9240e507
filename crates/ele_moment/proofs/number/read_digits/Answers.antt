use Rattle.std.proofs.Common.{arith}
use Rattle.ele_moment.proofs.Numbers.{too_large}
use Rattle.ele_moment.proofs.number.read_digits.Goals as goal

pub returns-in_err-checked_mul-clause-none : goal.returns-in_err-checked_mul-clause-none
returns-in_err-checked_mul-clause-none c =
    too_large _ c.args.word.now c.loop-byte.byte-index c.loop-byte.number c.loop-byte.invariant c.loop-byte-test.true (omega (arith, c.in_err-checked_mul.ensures))

pub returns-in_err-number-clause-none : goal.returns-in_err-number-clause-none
returns-in_err-number-clause-none c =
    too_large _ c.args.word.now c.loop-byte.byte-index c.loop-byte.number c.loop-byte.invariant c.loop-byte-test.true (omega (arith, c.in_err-number.ensures, c.in_ok-checked_mul.ensures, c.in_ok-digit.ensures.value))
