use Rattle.ele_output.proofs.Known.{puts_then}
use Rattle.ele_space.proofs.text.put_bytes.Goals as goal

pub returns-then-sizes : goal.returns-then-sizes
returns-then-sizes g c = rw c.if-sizes.true (puts_then c.put_digits.ensures c.put_digits-then-sizes.ensures)
