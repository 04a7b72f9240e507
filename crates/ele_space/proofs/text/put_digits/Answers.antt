use Rattle.ele_output.proofs.Known.{puts_then}
use Rattle.ele_space.proofs.text.put_digits.Goals as goal

pub returns : goal.returns
returns g c = puts_then c.put_byte.ensures (rw (c.as_bytes.ensures.value, c.format.ensures.text) at c.put.ensures)
