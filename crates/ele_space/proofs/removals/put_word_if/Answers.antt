use Rattle.ele_output.proofs.Known.{puts_then}
use Rattle.ele_space.proofs.removals.put_word_if.Goals as goal

pub returns-then-named : goal.returns-then-named
returns-then-named g c = rw c.if-named.true (puts_then c.put_byte.ensures c.put.ensures)
