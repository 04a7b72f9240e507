use Rattle.ele_model.proofs.Formed.{in_parts}
use Rattle.ele_world.proofs.MarkedRipens.{marked_ripens}
use Rattle.ele_world.proofs.laws.marked_ripens.Goals as goal

pub returns : goal.returns
returns c = λ w k. marked_ripens w (in_parts c.policies_are_lawful.ensures w k)
