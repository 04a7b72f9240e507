use Rattle.ele_output.proofs.Known.{puts_then}
use Rattle.ele_against.proofs.json.put_compared_json.Goals as goal

pub returns : goal.returns
returns g c =
    puts_then c.put.ensures (puts_then c.put_staying.ensures (puts_then c.put-2.ensures (puts_then c.put_staying-2.ensures (puts_then c.put-3.ensures (puts_then c.put_staying-3.ensures (rw c.as_slice.ensures.value at c.put_unknown.ensures))))))
