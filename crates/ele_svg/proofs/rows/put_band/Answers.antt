use Rattle.ele_output.proofs.Known.{puts_then}
use Rattle.ele_svg.proofs.rows.put_band.Goals as goal

pub returns : goal.returns
returns g c =
    puts_then (rw c.band_top-top.ensures.value at c.put_marks.ensures) (rw c.band_top-top.ensures.value at c.put_spans.ensures)
