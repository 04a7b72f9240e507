use Rattle.ele_output.proofs.Known.{puts_then}
use Rattle.ele_rule_forecast.proofs.reason.put_oldest.Goals as goal

pub returns : goal.returns
returns g c = puts_then c.put.ensures (rw c.span_word.ensures at c.put-2.ensures)
