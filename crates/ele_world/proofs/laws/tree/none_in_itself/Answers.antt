use Rattle.ele_world.proofs.NoneInItself.{none_in_itself}
use Rattle.ele_world.proofs.laws.tree.none_in_itself.Goals as goal

pub returns : goal.returns
returns c = λ w directory path k tree back. none_in_itself w.names directory path k.tree tree back
