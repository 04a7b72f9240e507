use Rattle.ele_output.proofs.Known.{puts_then}
use Rattle.ele_against.proofs.json.put_unknown.Goals as goal

pub returns : goal.returns
returns g c = puts_then c.put.ensures (puts_then c.put_numbers.ensures c.put-2.ensures)
