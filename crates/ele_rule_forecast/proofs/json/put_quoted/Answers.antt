use Rattle.ele_output.proofs.Known.{puts_then}
use Rattle.ele_rule_forecast.proofs.json.put_quoted.Goals as goal

pub returns : goal.returns
returns g c = puts_then c.put.ensures (puts_then c.put_reason.ensures c.put-2.ensures)
