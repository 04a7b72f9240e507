use Rattle.ele_world.proofs.OneLife.{one_life_from}
use Rattle.ele_world.proofs.laws.one_life_from.Goals as goal

pub returns : goal.returns
returns c = one_life_from c.policies_are_lawful.ensures
