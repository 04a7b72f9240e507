use Rattle.ele_output.proofs.Known.{puts_then}
use Rattle.ele_evidence.proofs.verdict.put_wrong.Goals as goal

pub returns : goal.returns
returns g c = puts_then c.put_with_number.ensures (rw c.fault_text.ensures at c.put.ensures)
