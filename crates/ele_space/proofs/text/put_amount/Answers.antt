use Rattle.ele_output.proofs.Known.{puts_then}
use Rattle.ele_space.proofs.text.put_amount.Goals as goal

pub returns : goal.returns
returns g c = puts_then c.put_digits.ensures c.put_bytes.ensures
