use Rattle.ele_audit.proofs.Basics.{refl}
use Rattle.ele_output.proofs.Known.{puts_then}
use Rattle.ele_audit.proofs.text.put_answers.Goals as goal

pub returns : goal.returns
returns g c = (_, (c.put_each_answer.ensures.0, c.put_each_answer.ensures.1, refl), puts_then c.put_line_of.ensures c.put_each_answer.ensures.2)
