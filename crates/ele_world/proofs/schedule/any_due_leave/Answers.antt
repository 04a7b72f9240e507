use Rattle.ele_model.proofs.Formed.{in_parts}
use Rattle.ele_world.proofs.AnyDueLeave.{any_due_leave}
use Rattle.ele_world.proofs.schedule.any_due_leave.Goals as goal

pub returns : goal.returns
returns c = λ w gone k. any_due_leave w gone (in_parts c.policies_are_lawful.ensures w k)
