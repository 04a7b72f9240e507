use Rattle.ele_output.proofs.Known.{puts_then}
use Rattle.ele_svg.proofs.compared.put_compared_body.Goals as goal

pub returns : goal.returns
returns g c =
    puts_then c.put_all.ensures (puts_then c.put_groups.ensures (rw c.compared_marks.ensures at c.put_marks.ensures))
