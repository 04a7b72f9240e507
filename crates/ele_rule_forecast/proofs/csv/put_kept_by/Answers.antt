use Rattle.ele_output.proofs.Known.{puts_then}
use Rattle.ele_rule_forecast.proofs.csv.put_kept_by.Goals as goal

pub returns-in-Some : goal.returns-in-Some
returns-in-Some g c = rw c.in-Some.is (puts_then c.put_byte.ensures c.put_reason.ensures)
