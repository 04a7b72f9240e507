use Rattle.ele_output.proofs.Known.{puts_then}
use Rattle.ele_against.proofs.csv.put_version.Goals as goal

pub returns : goal.returns
returns g c = puts_then (rw c.number.view_is at c.put_number.ensures) (puts_then c.put_label.ensures c.put_size.ensures)
