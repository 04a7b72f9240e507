use Rattle.ele_output.proofs.Known.{puts_then}
use Rattle.ele_suggest.proofs.table.put_best_line.Goals as goal

pub returns : goal.returns
returns g c = puts_then c.put.ensures (puts_then c.put_best.ensures c.put-2.ensures)
