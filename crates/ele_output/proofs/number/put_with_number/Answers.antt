use Rattle.ele_output.proofs.Known.{puts_then}
use Rattle.ele_output.proofs.number.put_with_number.Goals as goal

pub returns : goal.returns
returns g c = puts_then c.put.ensures c.put_number.ensures
