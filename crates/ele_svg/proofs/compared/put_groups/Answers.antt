use Rattle.ele_output.proofs.Known.{puts_then}
use Rattle.ele_svg.proofs.compared.put_groups.Goals as goal

pub returns : goal.returns
returns g c =
    puts_then (rw c.as_slice-both.ensures.value at c.put_group.ensures) (
    puts_then (rw c.as_slice-here.ensures.value at c.put_group-2.ensures) (rw c.as_slice-there.ensures.value at c.put_group-3.ensures))
