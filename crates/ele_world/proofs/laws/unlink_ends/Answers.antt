use Rattle.ele_model.proofs.Formed.{in_parts}
use Rattle.ele_world.proofs.NameEnds.{unlink_ends}
use Rattle.ele_world.proofs.laws.unlink_ends.Goals as goal

pub returns : goal.returns
returns c = λ w path k. unlink_ends w path (in_parts c.policies_are_lawful.ensures w k)
