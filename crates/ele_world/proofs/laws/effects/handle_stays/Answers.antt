use Rattle.ele_model.proofs.Formed.{in_parts}
use Rattle.ele_world.proofs.Written.{handle_stays}
use Rattle.ele_world.proofs.laws.effects.handle_stays.Goals as goal

pub returns : goal.returns
returns c = λ w event handle reads k. handle_stays w event handle reads (in_parts c.policies_are_lawful.ensures w k)
