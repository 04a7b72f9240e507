use Rattle.ele_model.proofs.Formed.{in_parts}
use Rattle.ele_model.proofs.Usages.{usages_fit}
use Rattle.ele_model.proofs.laws.usage_fits.Goals as goal

pub returns : goal.returns
returns c = λ w k. usages_fit w (in_parts c.policies_are_lawful.ensures w k) k.bounded
