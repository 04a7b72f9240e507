use Rattle.ele_world.proofs.Runs.{reached_is_start}
use Rattle.ele_world.proofs.laws.start_stays.Goals as goal

pub returns-clause-reached : goal.returns-clause-reached
returns-clause-reached c = reached_is_start c.policies_are_lawful.ensures
