use Rattle.ele_output.proofs.Known.{puts_then}
use Rattle.ele_reasons.proofs.reasons.put_reason.Goals as goal

pub returns : goal.returns
returns g c = puts_then (puts_then c.put_place.ensures c.put.ensures) c.put_cause.ensures
