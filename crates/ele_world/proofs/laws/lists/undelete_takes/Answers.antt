use Rattle.ele_model.proofs.Formed.{in_parts}
use Rattle.ele_world.proofs.Undeletes.{undelete_takes}
use Rattle.ele_world.proofs.laws.lists.undelete_takes.Goals as goal

pub returns : goal.returns
returns c = λ w path at k. undelete_takes w path at (in_parts c.policies_are_lawful.ensures w k)
