use Rattle.ele_model.proofs.Formed.{in_parts}
use Rattle.ele_world.proofs.LagsKeeps.{lags_keeps}
use Rattle.ele_world.proofs.schedule.lags_keeps.Goals as goal

pub returns : goal.returns
returns c = λ u v formed k. lags_keeps u v (in_parts c.policies_are_lawful.ensures u formed) (in_parts c.policies_are_lawful.ensures v k)
