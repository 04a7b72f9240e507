use Rattle.ele_output.proofs.Known.{puts_then}
use Rattle.ele_space.proofs.text.put_csv_columns.Goals as goal

pub returns : goal.returns
returns g c = puts_then c.put.ensures (puts_then c.put-2.ensures (puts_then c.put_size_columns.ensures c.put-3.ensures))
