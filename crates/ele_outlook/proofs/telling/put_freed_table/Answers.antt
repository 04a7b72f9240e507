use Rattle.ele_output.proofs.Known.{puts_then}
use Rattle.ele_outlook.proofs.telling.put_freed_table.Goals as goal

pub returns : goal.returns
returns g c =
    puts_then (rw c.as_slice-judged.ensures.value at c.put_told_table.ensures)
    (rw (c.names_policies-named.ensures, c.as_slice-judged.ensures.value, c.as_slice.ensures.value) at c.put_removals.ensures)
