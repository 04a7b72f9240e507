use Rattle.ele_model.proofs.Basics.{arith, nat_tests}
use Rattle.ele_events.proofs.name.undelete.Goals as goal

pub revive-requires-clause-held : goal.revive-requires-clause-held
revive-requires-clause-held c = rw c.last_number-last.ensures (grind (arith, nat_tests))
