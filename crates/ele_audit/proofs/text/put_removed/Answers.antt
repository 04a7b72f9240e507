use Rattle.ele_audit.proofs.Basics.{sym}
use Rattle.ele_audit.proofs.Lines.{removed_parts}
use Rattle.ele_output.proofs.Known.{puts_as, puts_then}
use Rattle.ele_audit.proofs.text.put_removed.Goals as goal

pub returns : goal.returns
returns g c = puts_as (sym (removed_parts c.args.row.now)) (puts_then c.put_version.ensures (puts_then c.put_path.ensures (puts_then c.put_hold.ensures c.put_gone_words.ensures)))
