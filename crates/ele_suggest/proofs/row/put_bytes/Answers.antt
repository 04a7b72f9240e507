use Rattle.ele_output.proofs.Known.{puts_then}
use Rattle.ele_suggest.proofs.row.put_bytes.Goals as goal

pub returns-then-sizes : goal.returns-then-sizes
returns-then-sizes g c =
    rw c.if-sizes.true (puts_then c.put.ensures (rw (c.as_bytes.ensures.value, c.format.ensures.text) at c.put-then-sizes.ensures))
