use Rattle.ele_output.proofs.Known.{puts_then}
use Rattle.ele_space.proofs.json.put_removals_member.Goals as goal

pub returns : goal.returns
returns g c = puts_then c.put.ensures (puts_then c.put_all.ensures c.put-2.ensures)
