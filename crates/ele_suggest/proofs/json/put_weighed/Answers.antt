use Rattle.ele_output.proofs.Known.{puts_then}
use Rattle.ele_suggest.proofs.json.put_weighed.Goals as goal

pub returns : goal.returns
returns g c =
    puts_then c.put.ensures (puts_then c.put_policy.ensures (puts_then (rw c.as_slice-numbers.ensures.value at c.put_with_number.ensures) (puts_then c.put_bytes.ensures (puts_then c.put-2.ensures (puts_then (rw (c.as_bytes.ensures.value, c.bool_word.ensures) at c.put-3.ensures) c.put-4.ensures)))))
