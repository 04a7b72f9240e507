use Rattle.ele_model.proofs.Formed.{in_parts}
use Rattle.ele_headline.proofs.HeldStays.{held_stays}
use Rattle.ele_headline.proofs.held_stays.Goals as goal

pub returns : goal.returns
returns c = λ w event k. held_stays w event (in_parts c.policies_are_lawful.ensures w k)
