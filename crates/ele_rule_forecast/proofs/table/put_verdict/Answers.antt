use Rattle.ele_output.proofs.Known.{puts_then}
use Rattle.ele_rule_forecast.proofs.table.put_verdict.Goals as goal

pub returns : goal.returns
returns g c = puts_then (puts_then c.put.ensures (puts_then (rw c.stamp_of.ensures at c.put-2.ensures) c.put_word.ensures)) (rw c.as_slice.ensures.value at c.put_kept.ensures)
