use Rattle.ele_runs.proofs.Basics.{[], refl}
use Rattle.ele_output.proofs.Known.{puts_nil}
use Rattle.ele_runs.proofs.said.put_last.Goals as goal

pub returns-in-None : goal.returns-in-None
returns-in-None g c = rw c.in-None.is ([], refl, puts_nil _)
