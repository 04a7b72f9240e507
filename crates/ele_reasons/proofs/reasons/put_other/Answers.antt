use Rattle.ele_output.proofs.Known.{puts_then}
use Rattle.ele_reasons.proofs.reasons.put_other.Goals as goal

pub returns : goal.returns
returns g c = puts_then (puts_then (puts_then c.put.ensures c.put_hexadecimal.ensures) c.put-2.ensures) c.put_hexadecimal-2.ensures
