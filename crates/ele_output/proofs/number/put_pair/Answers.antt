use Rattle.ele_output.proofs.Known.{puts_then}
use Rattle.ele_output.proofs.number.put_pair.Goals as goal

pub returns : goal.returns
returns g c = puts_then c.put_byte.ensures c.put_byte-2.ensures
