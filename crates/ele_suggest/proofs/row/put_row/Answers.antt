use Rattle.ele_output.proofs.Known.{puts_then}
use Rattle.ele_suggest.proofs.row.put_row.Goals as goal

pub returns : goal.returns
returns g c = puts_then c.put.ensures (puts_then c.put_policy.ensures (puts_then c.put-2.ensures c.put_cells.ensures))
