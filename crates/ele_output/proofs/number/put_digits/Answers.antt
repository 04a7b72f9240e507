use Rattle.std.proofs.Common.{arith, sym}
use Rattle.itoa.proofs.Decimal.{decimal_pair}
use Rattle.ele_output.proofs.Known.{puts_as, puts_then}
use Rattle.ele_output.proofs.number.put_digits.Goals as goal

pub returns-then-number-lt10000 : goal.returns-then-number-lt10000
returns-then-number-lt10000 g c = puts_as (sym (decimal_pair c.args.number (omega arith) (omega arith))) (puts_then c.put_short.ensures c.put_pair-then-number-lt10000.ensures)
