use Rattle.ele_output.proofs.Known.{puts_then}
use Rattle.ele_removals.proofs.expiring_text.put_all.Goals as goal

pub returns : goal.returns
returns g c = puts_then c.put_line_of.ensures c.put_lines.ensures
