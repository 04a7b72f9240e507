use Rattle.ele_output.proofs.Known.{puts_then}
use Rattle.ele_audit.proofs.text.put_numbers.Goals as goal

pub returns : goal.returns
returns g c = puts_then c.put.ensures (puts_then c.put_with_number.ensures c.put_with_number-2.ensures)
