use Rattle.ele_output.proofs.Known.{puts_then}
use Rattle.ele_against.proofs.csv.put_compared_heading.Goals as goal

pub returns : goal.returns
returns g c = puts_then c.put.ensures (puts_then c.put_if.ensures (puts_then c.put_if-2.ensures c.put-2.ensures))
