use Rattle.ele_output.proofs.Known.{puts_then}
use Rattle.ele_svg.proofs.compared.put_group.Goals as goal

pub returns : goal.returns
returns g c =
    puts_then (rw c.group_marks.ensures at c.put_marks.ensures) (puts_then c.put_group_words.ensures c.put_group_bars.ensures)
