use Rattle.ele_model.proofs.Formed.{in_parts}
use Rattle.ele_world.proofs.IdleLeave.{idle_leave}
use Rattle.ele_world.proofs.schedule.idle_leave.Goals as goal

pub returns : goal.returns
returns c = λ w gone k. idle_leave w gone (in_parts c.policies_are_lawful.ensures w k)
