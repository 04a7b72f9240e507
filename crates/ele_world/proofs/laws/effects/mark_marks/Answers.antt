use Rattle.ele_model.proofs.Formed.{in_parts}
use Rattle.ele_world.proofs.Governs.{mark_marks}
use Rattle.ele_world.proofs.laws.effects.mark_marks.Goals as goal

pub returns : goal.returns
returns c = λ w name mark until k. mark_marks w name mark until (in_parts c.policies_are_lawful.ensures w k)
