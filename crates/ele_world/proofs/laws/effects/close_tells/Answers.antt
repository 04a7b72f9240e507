use Rattle.ele_world.proofs.CloseTells.{close_tells}
use Rattle.ele_world.proofs.laws.effects.close_tells.Goals as goal

pub returns : goal.returns
returns c = λ w handle file draft written drafted. close_tells w handle file draft written drafted
