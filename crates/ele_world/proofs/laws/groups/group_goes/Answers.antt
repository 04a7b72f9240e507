use Rattle.ele_model.proofs.Formed.{in_parts}
use Rattle.ele_world.proofs.GroupsChanged.{a_group_goes}
use Rattle.ele_world.proofs.laws.groups.group_goes.Goals as goal

pub returns : goal.returns
returns c = λ w name k. a_group_goes w name (in_parts c.policies_are_lawful.ensures w k)
