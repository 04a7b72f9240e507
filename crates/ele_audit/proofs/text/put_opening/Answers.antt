use Rattle.ele_output.proofs.Known.{puts_then}
use Rattle.ele_audit.proofs.text.put_opening.Goals as goal

pub returns : goal.returns
returns g c = puts_then c.put_since.ensures (puts_then c.put_path.ensures c.put.ensures)
