use Rattle.ele_core.proofs.Reached.{cleans}
use Rattle.ele_core.proofs.Core.clean_one.Goals as goal

pub invariant_of-self : goal.invariant_of-self
invariant_of-self c = cleans _ _ c.clean_one.result c.self.invariant c.clean_one.ensures.step
