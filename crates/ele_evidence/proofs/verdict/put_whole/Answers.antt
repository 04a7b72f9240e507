use Rattle.ele_output.proofs.Known.{puts_then}
use Rattle.ele_evidence.proofs.verdict.put_whole.Goals as goal

pub returns : goal.returns
returns g c = puts_then c.put_with_number.ensures (puts_then c.put.ensures (rw c.bytes.ensures at c.put-2.ensures))
