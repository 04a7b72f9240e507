use Rattle.ele_output.proofs.Known.{puts_then}
use Rattle.ele_svg.proofs.compared.put_all.Goals as goal

pub returns : goal.returns
returns g c =
    puts_then (rw c.strip_at.ensures at c.put_marks.ensures) c.put_bars.ensures
