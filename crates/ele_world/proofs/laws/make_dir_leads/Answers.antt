use Rattle.ele_model.proofs.Formed.{in_parts}
use Rattle.ele_world.proofs.Leads.{make_dir_leads}
use Rattle.ele_world.proofs.laws.make_dir_leads.Goals as goal

pub returns : goal.returns
returns c = λ w path id k. make_dir_leads w path id (in_parts c.policies_are_lawful.ensures w k)
