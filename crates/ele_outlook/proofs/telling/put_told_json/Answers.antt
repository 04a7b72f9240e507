use Rattle.ele_output.proofs.Known.{puts_then}
use Rattle.ele_outlook.proofs.telling.put_told_json.Goals as goal

pub returns : goal.returns
returns g c = puts_then c.put.ensures (puts_then c.put_rules_part.ensures (puts_then c.put_removals_part.ensures c.put_json_members.ensures))
