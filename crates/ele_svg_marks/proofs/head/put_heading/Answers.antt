use Rattle.ele_output.proofs.Known.{puts_then}
use Rattle.ele_svg_marks.proofs.head.put_heading.Goals as goal

pub returns : goal.returns
returns g c = puts_then c.put_with_number.ensures (puts_then c.put.ensures (puts_then c.put_name.ensures c.put-2.ensures))
