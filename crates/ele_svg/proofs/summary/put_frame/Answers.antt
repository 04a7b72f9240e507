use Rattle.ele_output.proofs.Known.{puts_then}
use Rattle.ele_svg.proofs.summary.put_frame.Goals as goal

pub returns : goal.returns
returns g c =
    let heading = puts_then (rw c.versions_of.ensures at c.put_with_number.ensures) c.put.ensures in
    puts_then c.put_head.ensures (puts_then heading (puts_then c.put_keys.ensures (puts_then c.put_foot.ensures c.put_axis.ensures)))
