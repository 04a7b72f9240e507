use Rattle.ele_model.proofs.Formed.{in_parts}
use Rattle.ele_headline.proofs.HeldStays.{only_due_leave}
use Rattle.ele_headline.proofs.only_due_leave.Goals as goal

pub returns : goal.returns
returns c = λ w event k. only_due_leave w event (in_parts c.policies_are_lawful.ensures w k)
