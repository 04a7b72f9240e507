use Rattle.ele_output.proofs.Known.{puts_then}
use Rattle.ele_runs.proofs.note.put_why.Goals as goal

pub returns : goal.returns
returns g c = rw c.in-Some.is (puts_then c.put_with_number.ensures (puts_then c.put.ensures (puts_then c.put_reason.ensures c.put_byte.ensures)))
