use Rattle.ele_output.proofs.Known.{puts_then}
use Rattle.ele_against.proofs.table.put_end.Goals as goal

pub returns : goal.returns
returns g c = puts_then c.put_with_number.ensures (puts_then c.put_bytes.ensures c.put_numbers.ensures)
