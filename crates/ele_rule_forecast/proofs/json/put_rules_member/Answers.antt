use Rattle.ele_output.proofs.Known.{puts_then}
use Rattle.ele_rule_forecast.proofs.json.put_rules_member.Goals as goal

pub returns : goal.returns
returns g c = puts_then c.put.ensures (puts_then (rw c.versions_of.ensures at c.put_rules.ensures) c.put-2.ensures)
