use Rattle.ele_model.proofs.Formed.{in_parts}
use Rattle.ele_world.proofs.OneContent.{one_content_stays}
use Rattle.ele_world.proofs.laws.past.one_content_stays.Goals as goal

pub returns : goal.returns
returns c = λ w event k have. one_content_stays w event (in_parts c.policies_are_lawful.ensures w k) have
