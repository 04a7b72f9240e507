use Rattle.ele_model.proofs.Formed.{in_parts}
use Rattle.ele_world.proofs.GroupsChanged.{mark_goes}
use Rattle.ele_world.proofs.laws.groups.mark_goes.Goals as goal

pub returns : goal.returns
returns c = λ w name mark k. mark_goes w name mark (in_parts c.policies_are_lawful.ensures w k)
