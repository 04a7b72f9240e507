use Rattle.ele_state.proofs.Walked.{live_are_present}
use Rattle.ele_state.proofs.State.live.Goals as goal

pub returns-clause-there : goal.returns-clause-there
returns-clause-there c = rw (← c.self.view_is) (live_are_present c.self.inside.rows c.self.invariant.sound c.args.directory c.args.name.now c.live.result c.live.ensures)
