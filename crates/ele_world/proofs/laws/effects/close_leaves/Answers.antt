use Rattle.ele_world.proofs.CloseTells.{close_leaves}
use Rattle.ele_world.proofs.laws.effects.close_leaves.Goals as goal

pub returns : goal.returns
returns c = λ w handle told. close_leaves w handle told
