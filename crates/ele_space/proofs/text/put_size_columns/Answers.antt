use Rattle.ele_output.proofs.Known.{puts_then}
use Rattle.ele_space.proofs.text.put_size_columns.Goals as goal

pub returns-then-sizes : goal.returns-then-sizes
returns-then-sizes g c =
    rw c.if-sizes.true (puts_then c.put.ensures (puts_then c.put-then-sizes.ensures (puts_then c.put-then-sizes-2.ensures c.put-then-sizes-3.ensures)))
