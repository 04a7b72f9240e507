use Rattle.ele_output.proofs.Known.{puts_then}
use Rattle.ele_words.proofs.evidence.put_cut.Goals as goal

pub returns : goal.returns
returns g c = puts_then c.put_line_before.ensures c.put.ensures
