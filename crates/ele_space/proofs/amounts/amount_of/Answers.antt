use Rattle.std.proofs.Common.{length, ap, refl}
use Rattle.ele_space.proofs.amounts.amount_of.Goals as goal

pub returns : goal.returns
returns c =
    record {
      staying = record { at = c.args.at; numbers = c.in_ok-numbers.numbers };
      at_is = refl;
      kept = c.in_ok-numbers.ensures;
      count_is = ap length c.as_slice-kept.ensures.value;
      bytes_are = rw c.as_slice-kept.ensures.value at c.bytes_of.ensures;
      freed_are = rw (c.as_slice-2.ensures.value, c.in_ok-due.ensures, c.as_slice.ensures.value) at c.bytes_of-2.ensures;
    }
