use Rattle.ele_output.proofs.Known.{puts_then}
use Rattle.ele_suggest.proofs.row.put_cells.Goals as goal

pub returns : goal.returns
returns g c =
    puts_then (rw c.as_slice-numbers.ensures.value at c.put_with_number.ensures) (puts_then c.put_bytes.ensures (puts_then c.put.ensures (puts_then (rw (c.as_bytes.ensures.value, c.verdict.ensures) at c.put-2.ensures) c.put-3.ensures)))
