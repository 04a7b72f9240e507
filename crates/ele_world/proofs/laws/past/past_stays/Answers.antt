use Rattle.ele_model.proofs.Formed.{in_parts}
use Rattle.ele_world.proofs.Past.{past_stays}
use Rattle.ele_world.proofs.laws.past.past_stays.Goals as goal

pub returns : goal.returns
returns c = λ w event moment directory name k. past_stays w event moment directory name (in_parts c.policies_are_lawful.ensures w k)
