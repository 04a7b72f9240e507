use Rattle.ele_model.proofs.Formed.{in_parts}
use Rattle.ele_world.proofs.NameEnds.{remove_dir_ends}
use Rattle.ele_world.proofs.laws.remove_dir_ends.Goals as goal

pub returns : goal.returns
returns c = λ w path k. remove_dir_ends w path (in_parts c.policies_are_lawful.ensures w k)
