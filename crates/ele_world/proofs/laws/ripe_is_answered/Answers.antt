use Rattle.ele_model.proofs.Formed.{in_parts}
use Rattle.ele_model.proofs.RipeMoments.{ripe_is_answered}
use Rattle.ele_world.proofs.laws.ripe_is_answered.Goals as goal

pub returns : goal.returns
returns c = λ w k. ripe_is_answered w (in_parts c.policies_are_lawful.ensures w k)
