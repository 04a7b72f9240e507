use Rattle.ele_output.proofs.Known.{puts_then}
use Rattle.ele_against.proofs.table.put_sum.Goals as goal

pub returns : goal.returns
returns g c =
    puts_then c.put.ensures (puts_then (rw (c.as_bytes.ensures.value, c.format.ensures.text, c.bytes_of-bytes.ensures) at c.put-2.ensures) c.put-3.ensures)
