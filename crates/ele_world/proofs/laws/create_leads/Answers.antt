use Rattle.ele_model.proofs.Formed.{in_parts}
use Rattle.ele_world.proofs.Leads.{create_leads}
use Rattle.ele_world.proofs.laws.create_leads.Goals as goal

pub returns : goal.returns
returns c = λ w path file k. create_leads w path file (in_parts c.policies_are_lawful.ensures w k)
