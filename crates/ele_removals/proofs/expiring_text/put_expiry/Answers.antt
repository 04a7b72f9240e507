use Rattle.ele_removals.proofs.Basics.{sym}
use Rattle.ele_removals.proofs.Lines.{expiry_parts}
use Rattle.ele_output.proofs.Known.{puts_as, puts_then}
use Rattle.ele_removals.proofs.expiring_text.put_expiry.Goals as goal

pub returns : goal.returns
returns g c =
    puts_as (sym (expiry_parts c.args.row.now))
    (puts_then c.put.ensures (puts_then (rw c.ripe_seconds.ensures at c.put_with_number.ensures) (puts_then (rw c.file_number.ensures at c.put_with_number-2.ensures) (puts_then (rw c.version_number.ensures at c.put_with_number-3.ensures) (puts_then c.put_name.ensures c.put-2.ensures)))))
