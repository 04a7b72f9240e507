use Rattle.ele_model.proofs.Formed.{in_parts}
use Rattle.ele_world.proofs.LifeStays.{life_stays}
use Rattle.ele_world.proofs.laws.past.life_stays.Goals as goal

pub returns : goal.returns
returns c = λ w event k. life_stays w event (in_parts c.policies_are_lawful.ensures w k)
