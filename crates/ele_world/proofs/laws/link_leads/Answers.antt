use Rattle.ele_model.proofs.Formed.{in_parts}
use Rattle.ele_world.proofs.NameEnds.{link_leads}
use Rattle.ele_world.proofs.laws.link_leads.Goals as goal

pub returns : goal.returns
returns c = λ w from to k. link_leads w from to (in_parts c.policies_are_lawful.ensures w k)
