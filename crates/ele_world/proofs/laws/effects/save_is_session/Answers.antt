use Rattle.ele_model.proofs.Formed.{in_parts}
use Rattle.ele_world.proofs.Sessions.{save_is_session}
use Rattle.ele_world.proofs.laws.effects.save_is_session.Goals as goal

pub returns : goal.returns
returns c = λ w path bytes file number k. save_is_session w path bytes file number (in_parts c.policies_are_lawful.ensures w k)
