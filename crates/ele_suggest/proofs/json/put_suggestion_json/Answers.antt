use Rattle.ele_output.proofs.Known.{puts_then}
use Rattle.ele_suggest.proofs.json.put_suggestion_json.Goals as goal

pub returns : goal.returns
returns g c =
    puts_then c.put.ensures (puts_then c.put_best.ensures (puts_then c.put-2.ensures (puts_then (rw c.as_slice.ensures.value at c.put_policies.ensures) c.put-3.ensures)))
