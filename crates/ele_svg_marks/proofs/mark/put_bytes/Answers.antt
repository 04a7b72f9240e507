use Rattle.ele_output.proofs.Known.{puts_then}
use Rattle.ele_svg_marks.proofs.mark.put_bytes.Goals as goal

pub returns : goal.returns
returns g c = puts_then (rw c.byte_unit-size.ensures.size at c.put_number.ensures) (rw c.byte_unit-size.ensures.name at c.put.ensures)
