use Rattle.ele_model.proofs.Formed.{in_parts}
use Rattle.ele_world.proofs.Numbered.{number_means}
use Rattle.ele_world.proofs.laws.effects.number_means.Goals as goal

pub returns : goal.returns
returns c = λ w path file number k. number_means w path file number (in_parts c.policies_are_lawful.ensures w k)
