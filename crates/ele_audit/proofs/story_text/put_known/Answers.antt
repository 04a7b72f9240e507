use Rattle.ele_output.proofs.Known.{puts_then}
use Rattle.ele_audit.proofs.story_text.put_known.Goals as goal

pub returns : goal.returns
returns g c = puts_then (rw c.seconds.ensures.value at c.put_with_number.ensures) (puts_then c.put_since.ensures c.put_with_number-2.ensures)
