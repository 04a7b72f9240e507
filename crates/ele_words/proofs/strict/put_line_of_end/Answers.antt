use Rattle.ele_output.proofs.Known.{puts_then}
use Rattle.ele_words.proofs.strict.put_line_of_end.Goals as goal

pub returns : goal.returns
returns g c = puts_then (rw c.shown.ensures at c.put_placed.ensures) c.put_why.ensures
