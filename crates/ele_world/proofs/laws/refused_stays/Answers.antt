use Rattle.ele_model.proofs.PlanOutcomes.{refused_stays}
use Rattle.ele_world.proofs.laws.refused_stays.Goals as goal

pub returns : goal.returns
returns c = refused_stays
