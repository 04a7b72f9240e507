use Rattle.ele_model.proofs.Formed.{in_parts}
use Rattle.ele_world.proofs.Closes.{revert_keeps}
use Rattle.ele_world.proofs.laws.revert_keeps.Goals as goal

pub returns : goal.returns
returns c = λ w path number made k. revert_keeps w path number made (in_parts c.policies_are_lawful.ensures w k)
