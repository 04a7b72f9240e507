use Rattle.ele_output.proofs.Known.{puts_then}
use Rattle.ele_rule_forecast.proofs.json.put_rule.Goals as goal

pub returns : goal.returns
returns g c =
    puts_then c.put.ensures (puts_then (rw c.as_slice.ensures.value at c.put-2.ensures) (puts_then c.put-3.ensures (puts_then (rw c.as_slice-2.ensures.value at c.put_verdicts.ensures) (puts_then c.put-4.ensures (puts_then c.put_whys.ensures c.put-5.ensures)))))
