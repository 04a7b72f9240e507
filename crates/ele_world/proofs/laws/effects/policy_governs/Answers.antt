use Rattle.ele_model.proofs.Formed.{in_parts}
use Rattle.ele_world.proofs.Governs.{policy_governs}
use Rattle.ele_world.proofs.laws.effects.policy_governs.Goals as goal

pub returns : goal.returns
returns c = λ w path policy k. policy_governs w path policy (in_parts c.policies_are_lawful.ensures w k)
