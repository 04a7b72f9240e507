use Rattle.ele_model.proofs.Formed.{in_parts}
use Rattle.ele_world.proofs.Closes.{close_keeps}
use Rattle.ele_world.proofs.laws.close_keeps.Goals as goal

pub returns : goal.returns
returns c = λ w handle number k. close_keeps w handle number (in_parts c.policies_are_lawful.ensures w k)
