use Rattle.ele_output.proofs.Known.{puts_then}
use Rattle.ele_against.proofs.csv.put_compared_csv.Goals as goal

pub returns : goal.returns
returns g c =
    puts_then (rw c.as_slice.ensures.value at c.put_rows.ensures) (puts_then (rw c.as_slice-2.ensures.value at c.put_rows-2.ensures) (rw c.as_slice-3.ensures.value at c.put_rows-3.ensures))
