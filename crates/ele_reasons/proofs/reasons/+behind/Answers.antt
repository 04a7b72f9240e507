use Rattle.ele_output.proofs.Known.{puts_then}
use Rattle.ele_reasons.proofs.reasons.+behind.Goals as goal

pub put_more-returns : goal.put_more-returns
put_more-returns g t c = puts_then c.put_next.ensures c.put_behind.ensures
