use Rattle.ele_model.proofs.Formed.{in_parts}
use Rattle.ele_world.proofs.OneTree.{one_tree}
use Rattle.ele_world.proofs.laws.tree.one_tree.Goals as goal

pub returns : goal.returns
returns c = λ w event k tree. one_tree w event (in_parts c.policies_are_lawful.ensures w k) tree
