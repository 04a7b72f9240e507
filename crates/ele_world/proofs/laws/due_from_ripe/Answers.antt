use Rattle.ele_model.proofs.Formed.{in_parts}
use Rattle.ele_model.proofs.RipeMoments.{due_from_ripe}
use Rattle.ele_world.proofs.laws.due_from_ripe.Goals as goal

pub returns : goal.returns
returns c = λ w k. due_from_ripe w (in_parts c.policies_are_lawful.ensures w k)
