use Rattle.ele_output.proofs.Known.{puts_then}
use Rattle.ele_against.proofs.table.put_start.Goals as goal

pub returns : goal.returns
returns g c = puts_then c.put.ensures (puts_then (rw c.stamp_of.ensures at c.put-2.ensures) (puts_then c.put_word.ensures c.put_word-2.ensures))
