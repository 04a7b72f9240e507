use Rattle.ele_model.proofs.Formed.{in_parts}
use Rattle.ele_world.proofs.Abandons.{abandon_drops}
use Rattle.ele_world.proofs.laws.effects.abandon_drops.Goals as goal

pub returns : goal.returns
returns c = λ w handle k. abandon_drops w handle (in_parts c.policies_are_lawful.ensures w k)
