use Rattle.ele_output.proofs.Known.{puts_then}
use Rattle.ele_rule_forecast.proofs.reason.put_reason.Goals as goal

pub returns : goal.returns
returns g c = puts_then c.put_name.ensures (puts_then c.put_byte.ensures c.put_number.ensures)
