use Rattle.ele_output.proofs.Known.{puts_then}
use Rattle.ele_svg.proofs.rows.put_frame.Goals as goal

pub returns : goal.returns
returns g c =
    puts_then c.put_head.ensures (
    puts_then c.put_heading.ensures (
    puts_then c.put_legend.ensures (
    puts_then c.put_foot.ensures (rw c.rungs_of.ensures.value at c.put_bands.ensures))))
