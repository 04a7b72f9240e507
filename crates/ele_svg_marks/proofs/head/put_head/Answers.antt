use Rattle.ele_output.proofs.Known.{puts_then}
use Rattle.ele_svg_marks.proofs.head.put_head.Goals as goal

pub returns : goal.returns
returns g c =
    puts_then (rw (c.as_bytes-height.ensures.value, c.format.ensures.text, c.height.ensures) at c.put_parts.ensures) (
    puts_then c.put_titled.ensures (
    puts_then (rw (c.as_bytes-height.ensures.value, c.format.ensures.text, c.height.ensures) at c.put_parts-2.ensures) (
    puts_then c.put_titled-2.ensures c.put.ensures)))
