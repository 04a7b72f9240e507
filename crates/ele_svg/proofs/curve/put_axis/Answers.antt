use Rattle.ele_output.proofs.Known.{puts_then}
use Rattle.ele_svg.proofs.curve.put_axis.Goals as goal

pub returns : goal.returns
returns g c =
    puts_then (rw c.axis_words.ensures at c.put_marks.ensures) (rw (c.line_count-lines.ensures.value, c.axis_step-step.ensures.value) at c.put_axis_lines.ensures)
