use Rattle.ele_output.proofs.Known.{puts_then}
use Rattle.ele_words.proofs.evidence.put_unanswered.Goals as goal

pub returns : goal.returns
returns g c = (c.put.ensures.0, c.put.ensures.1, puts_then c.put_line_before.ensures c.put.ensures.2)
