use Rattle.std.proofs.Common.{arith}
use Rattle.ele_outlook.proofs.Lines.{more_given}
use Rattle.ele_outlook.proofs.input.read_input.Goals as goal

pub returns-then-is_err-clause-err : goal.returns-then-is_err-clause-err
returns-then-is_err-clause-err g c =
    more_given _ _ _ c.pieces.input.items c.read.new.buf c.in-Ok.count (omega (arith, c.in-Ok.count-is)) (omega (arith, c.in-Ok.ensures.bound)) c.pieces.invariant c.in-Ok.ensures.bytes.0
