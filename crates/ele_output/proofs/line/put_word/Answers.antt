use Rattle.ele_output.proofs.Known.{puts_then}
use Rattle.ele_output.proofs.line.put_word.Goals as goal

pub returns : goal.returns
returns g c = puts_then c.put_byte.ensures c.put.ensures
