use Rattle.ele_model.proofs.Formed.{in_parts}
use Rattle.ele_world.proofs.Written.{truncate_fits}
use Rattle.ele_world.proofs.laws.effects.truncate_fits.Goals as goal

pub returns : goal.returns
returns c = λ w handle size k. truncate_fits w handle size (in_parts c.policies_are_lawful.ensures w k)
