use Rattle.ele_output.proofs.Known.{puts_then}
use Rattle.ele_audit.proofs.text.put_handles.Goals as goal

pub returns : goal.returns
returns g c = puts_then c.put_line_of.ensures c.put_handle_lines.ensures
