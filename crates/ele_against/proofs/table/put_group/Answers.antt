use Rattle.ele_output.proofs.Known.{puts_then}
use Rattle.ele_against.proofs.table.put_group.Goals as goal

pub returns : goal.returns
returns g c = puts_then c.put_start.ensures (rw c.as_slice.ensures.value at c.put_end.ensures)
