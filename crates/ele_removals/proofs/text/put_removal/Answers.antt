use Rattle.ele_removals.proofs.Basics.{sym}
use Rattle.ele_removals.proofs.Lines.{removal_parts}
use Rattle.ele_output.proofs.Known.{puts_as, puts_then}
use Rattle.ele_removals.proofs.text.put_removal.Goals as goal

pub returns : goal.returns
returns g c =
    puts_as (sym (removal_parts c.args.row.now))
    (puts_then c.put.ensures (puts_then c.put_since.ensures (puts_then (rw c.file_number.ensures at c.put_with_number.ensures) (puts_then (rw c.version_number.ensures at c.put_with_number-2.ensures) (puts_then c.put_name.ensures (puts_then c.put_hold.ensures c.put_fate_or_dash.ensures))))))
