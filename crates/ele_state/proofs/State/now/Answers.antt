use Rattle.ele_state.proofs.Words.{well_formed, world_of}
use Rattle.ele_state.proofs.State.now.Goals as goal

pub returns-clause-formed : goal.returns-clause-formed
returns-clause-formed c = rw (← c.self.view_is) (well_formed (world_of c.self.inside.rows) c.self.invariant.sound.formed)

pub returns-clause-idle : goal.returns-clause-idle
returns-clause-idle c = rw (← c.self.view_is) c.self.invariant.none_idle
