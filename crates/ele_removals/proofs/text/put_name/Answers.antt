use Rattle.ele_output.proofs.Known.{puts_then}
use Rattle.ele_removals.proofs.text.put_name.Goals as goal

pub returns-in-Some : goal.returns-in-Some
returns-in-Some g c = rw c.in-Some.is (puts_then c.put_path.ensures c.put_since.ensures)
