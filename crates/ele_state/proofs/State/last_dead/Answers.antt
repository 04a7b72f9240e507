use Rattle.ele_state.proofs.Walked.{lost_are_present}
use Rattle.ele_state.proofs.State.last_dead.Goals as goal

pub returns-clause-there : goal.returns-clause-there
returns-clause-there c = rw (← c.self.view_is) (lost_are_present c.self.inside.rows c.self.invariant.sound c.args.directory c.args.name.now c.last_dead.result c.last_dead.ensures.value)
