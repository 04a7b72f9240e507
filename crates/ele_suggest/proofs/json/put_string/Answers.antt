use Rattle.ele_output.proofs.Known.{puts_then}
use Rattle.ele_suggest.proofs.json.put_string.Goals as goal

pub returns : goal.returns
returns g c = puts_then c.put.ensures (puts_then c.put_policy.ensures c.put-2.ensures)
