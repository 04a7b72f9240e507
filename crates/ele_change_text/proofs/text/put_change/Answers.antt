use Rattle.ele_change_text.proofs.Basics.{sym}
use Rattle.ele_change_text.proofs.Lines.{change_parts}
use Rattle.ele_output.proofs.Known.{puts_as, puts_then}
use Rattle.ele_change_text.proofs.text.put_change.Goals as goal

pub returns : goal.returns
returns g c =
    puts_as (sym (change_parts c.args.row.now))
    (puts_then c.put_kind.ensures (puts_then c.put_target.ensures (puts_then c.put_version.ensures (puts_then c.put_version-2.ensures (puts_then c.put_path.ensures (puts_then c.put_path-2.ensures c.put.ensures))))))
