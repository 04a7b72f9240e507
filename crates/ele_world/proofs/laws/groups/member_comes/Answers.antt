use Rattle.ele_model.proofs.Formed.{in_parts}
use Rattle.ele_world.proofs.GroupsChanged.{member_comes}
use Rattle.ele_world.proofs.laws.groups.member_comes.Goals as goal

pub returns : goal.returns
returns c = λ w name path file k. member_comes w name path file (in_parts c.policies_are_lawful.ensures w k)
