use Rattle.ele_runs.proofs.Basics.{[], refl}
use Rattle.ele_output.proofs.Known.{puts_nil}
use Rattle.ele_runs.proofs.said.Said.put.Goals as goal

pub returns-in-Nothing : goal.returns-in-Nothing
returns-in-Nothing g c = rw c.in-Nothing.is ([], refl, puts_nil _)
