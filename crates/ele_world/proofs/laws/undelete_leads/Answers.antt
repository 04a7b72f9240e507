use Rattle.ele_model.proofs.Formed.{in_parts}
use Rattle.ele_world.proofs.Leads.{undelete_leads}
use Rattle.ele_world.proofs.laws.undelete_leads.Goals as goal

pub returns : goal.returns
returns c = λ w path k. undelete_leads w path (in_parts c.policies_are_lawful.ensures w k)
