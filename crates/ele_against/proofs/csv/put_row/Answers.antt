use Rattle.ele_output.proofs.Known.{puts_then}
use Rattle.ele_against.proofs.csv.put_row.Goals as goal

pub returns : goal.returns
returns g c =
    puts_then c.put.ensures (puts_then c.put-2.ensures (puts_then c.put-3.ensures (puts_then c.put-4.ensures (puts_then c.put-5.ensures (puts_then c.put_version.ensures c.put-6.ensures)))))
