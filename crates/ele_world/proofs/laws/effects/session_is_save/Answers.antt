use Rattle.ele_model.proofs.Formed.{in_parts}
use Rattle.ele_world.proofs.Sessions.{session_is_save}
use Rattle.ele_world.proofs.laws.effects.session_is_save.Goals as goal

pub returns : goal.returns
returns c = λ w path bytes file number k. session_is_save w path bytes file number (in_parts c.policies_are_lawful.ensures w k)
