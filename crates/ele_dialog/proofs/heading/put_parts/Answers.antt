use Rattle.ele_output.proofs.Known.{puts_then}
use Rattle.ele_dialog.proofs.heading.put_parts.Goals as goal

pub returns : goal.returns
returns g c =
    puts_then c.put.ensures (puts_then c.put_byte.ensures (puts_then (rw c.heading_above.ensures at c.put-2.ensures) c.put-3.ensures))
