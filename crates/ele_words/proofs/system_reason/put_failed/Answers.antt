use Rattle.ele_output.proofs.Known.{puts_then}
use Rattle.ele_words.proofs.system_reason.put_failed.Goals as goal

pub returns-in-Some : goal.returns-in-Some
returns-in-Some g c = rw c.in-Some.is (puts_then (rw (c.number.ensures, c.name.ensures) at c.put_named.ensures) (rw c.reason_line.ensures at c.put.ensures))
