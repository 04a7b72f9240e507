use Rattle.ele_audit.proofs.Basics.{sym}
use Rattle.ele_audit.proofs.Lines.{handle_parts}
use Rattle.ele_output.proofs.Known.{puts_as, puts_then}
use Rattle.ele_audit.proofs.text.put_handle.Goals as goal

pub returns : goal.returns
returns g c = puts_as (sym (handle_parts c.args.handle.now)) (puts_then (rw c.handle_number.ensures at c.put_with_number.ensures) (puts_then c.put_file.ensures (puts_then c.put_read.ensures c.put_opening.ensures)))
