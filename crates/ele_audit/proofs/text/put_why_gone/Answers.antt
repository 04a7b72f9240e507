use Rattle.ele_audit.proofs.Basics.{sym}
use Rattle.ele_audit.proofs.Lines.{why_gone_parts}
use Rattle.ele_output.proofs.Known.{puts_as, puts_then}
use Rattle.ele_audit.proofs.text.put_why_gone.Goals as goal

pub returns : goal.returns
returns g c = puts_as (sym (why_gone_parts c.args.removed.now)) (puts_then (rw c.seconds.ensures.value at c.put_with_number.ensures) (puts_then c.put_hold.ensures c.put_gone_words.ensures))
