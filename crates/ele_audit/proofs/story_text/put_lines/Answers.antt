use Rattle.ele_output.proofs.Known.{puts_then}
use Rattle.ele_audit.proofs.story_text.put_lines.Goals as goal

pub returns : goal.returns
returns g c = puts_then (rw c.count_lines.ensures at c.put_line_of.ensures) (puts_then c.put_versions.ensures c.put_names.ensures)
