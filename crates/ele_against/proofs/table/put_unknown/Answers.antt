use Rattle.ele_output.proofs.Known.{puts_then}
use Rattle.ele_against.proofs.table.put_unknown.Goals as goal

pub returns : goal.returns
returns g c = puts_then c.put_with_number.ensures c.put_lines.ensures
