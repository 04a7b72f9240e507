use Rattle.ele_output.proofs.Known.{puts_then}
use Rattle.ele_svg_marks.proofs.mark.put_text.Goals as goal

pub returns : goal.returns
returns g c =
    puts_then (rw (c.as_bytes.ensures.value, c.format.ensures.text, c.as_bytes-2.ensures.value, c.format-2.ensures.text, c.as_bytes-3.ensures.value, c.format-3.ensures.text, c.word.ensures) at c.put_parts.ensures) (
    puts_then c.put_said.ensures c.put.ensures)
