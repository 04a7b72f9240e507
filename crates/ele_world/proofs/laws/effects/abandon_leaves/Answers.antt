use Rattle.ele_world.proofs.Abandons.{abandon_leaves}
use Rattle.ele_world.proofs.laws.effects.abandon_leaves.Goals as goal

pub returns : goal.returns
returns c = λ w handle. abandon_leaves w handle
