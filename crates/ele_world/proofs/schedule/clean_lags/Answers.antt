use Rattle.ele_model.proofs.Formed.{in_parts}
use Rattle.ele_world.proofs.CleanLags.{clean_lags}
use Rattle.ele_world.proofs.schedule.clean_lags.Goals as goal

pub returns : goal.returns
returns c = λ u v formed k. clean_lags u v (in_parts c.policies_are_lawful.ensures u formed) (in_parts c.policies_are_lawful.ensures v k)
