use Rattle.ele_world.proofs.CloseTells.{undelete_revives}
use Rattle.ele_world.proofs.laws.effects.undelete_revives.Goals as goal

pub returns : goal.returns
returns c = λ w path number told. undelete_revives w path number told
