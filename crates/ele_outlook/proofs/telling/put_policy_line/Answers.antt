use Rattle.ele_output.proofs.Known.{puts_then}
use Rattle.ele_outlook.proofs.telling.put_policy_line.Goals as goal

pub returns-then-named : goal.returns-then-named
returns-then-named g c = rw c.if-named.true (puts_then c.put.ensures (puts_then c.put_policy.ensures c.put-then-named.ensures))
