use Rattle.ele_model.proofs.Formed.{in_parts}
use Rattle.ele_world.proofs.OpenStays.{open_stays}
use Rattle.ele_world.proofs.laws.open_stays.Goals as goal

pub returns : goal.returns
returns c = λ w event handle file number k. open_stays w event handle file number (in_parts c.policies_are_lawful.ensures w k)
