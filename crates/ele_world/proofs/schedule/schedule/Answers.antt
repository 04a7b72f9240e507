use Rattle.ele_model.proofs.Formed.{in_parts}
use Rattle.ele_world.proofs.RunsLag.{schedule}
use Rattle.ele_world.proofs.schedule.schedule.Goals as goal

pub returns : goal.returns
returns c = λ w events k. schedule w events (in_parts c.policies_are_lawful.ensures w k)
