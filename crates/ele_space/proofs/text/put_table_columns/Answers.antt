use Rattle.ele_output.proofs.Known.{puts_then}
use Rattle.ele_space.proofs.text.put_table_columns.Goals as goal

pub returns : goal.returns
returns g c = puts_then c.put.ensures (puts_then c.put-2.ensures c.put-3.ensures)
