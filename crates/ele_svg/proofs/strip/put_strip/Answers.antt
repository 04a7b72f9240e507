use Rattle.ele_output.proofs.Known.{puts_then}
use Rattle.ele_svg.proofs.strip.put_strip.Goals as goal

pub returns : goal.returns
returns g c =
    puts_then (rw c.strip_top-top.ensures.value at c.put_marks.ensures) (rw c.strip_top-top.ensures.value at c.put_bars.ensures)
