use Rattle.ele_output.proofs.Known.{puts_then}
use Rattle.ele_against.proofs.table.put_compared.Goals as goal

pub returns : goal.returns
returns g c = puts_then c.put_group.ensures (puts_then c.put_group-2.ensures c.put_group-3.ensures)
