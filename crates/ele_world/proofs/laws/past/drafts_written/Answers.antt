use Rattle.ele_model.proofs.Formed.{in_parts}
use Rattle.ele_world.proofs.Writing.{drafts_written}
use Rattle.ele_world.proofs.laws.past.drafts_written.Goals as goal

pub returns : goal.returns
returns c = λ w event k have. drafts_written w event (in_parts c.policies_are_lawful.ensures w k) have
