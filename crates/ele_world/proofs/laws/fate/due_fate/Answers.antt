use Rattle.ele_world.proofs.Fates.{due_fate}
use Rattle.ele_model.proofs.Formed.{in_parts}
use Rattle.ele_world.proofs.laws.fate.due_fate.Goals as goal

pub returns : goal.returns
returns c = λ w k. due_fate w (in_parts c.policies_are_lawful.ensures w k)
