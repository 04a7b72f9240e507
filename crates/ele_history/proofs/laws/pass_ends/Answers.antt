use Rattle.ele_history.proofs.PassOfWorld.{pass_ends}
use Rattle.ele_history.proofs.laws.pass_ends.Goals as goal

pub returns : goal.returns
returns c = pass_ends c.policies_are_lawful.ensures
