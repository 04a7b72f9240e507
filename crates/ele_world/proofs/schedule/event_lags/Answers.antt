use Rattle.ele_model.proofs.Formed.{in_parts}
use Rattle.ele_world.proofs.EventLags.{event_lags}
use Rattle.ele_world.proofs.schedule.event_lags.Goals as goal

pub returns : goal.returns
returns c = λ u v event is plain formed k. event_lags u v event is plain (in_parts c.policies_are_lawful.ensures u formed) (in_parts c.policies_are_lawful.ensures v k)
