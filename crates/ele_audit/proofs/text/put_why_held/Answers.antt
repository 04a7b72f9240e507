use Rattle.ele_audit.proofs.Basics.{sym}
use Rattle.ele_audit.proofs.Lines.{why_held_parts}
use Rattle.ele_output.proofs.Known.{puts_as, puts_then}
use Rattle.ele_audit.proofs.text.put_why_held.Goals as goal

pub returns : goal.returns
returns g c = puts_as (sym (why_held_parts c.args.fate.now c.args.hold.now)) (puts_then c.put.ensures (puts_then c.put_hold.ensures c.put_fate.ensures))
