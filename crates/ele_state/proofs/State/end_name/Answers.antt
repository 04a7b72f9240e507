use Rattle.ele_state.proofs.Words.{EndName, refl}
use Rattle.ele_state.proofs.NewNames.{dies_queue}
use Rattle.ele_state.proofs.SoundAfter.{settled_by}
use Rattle.ele_state.proofs.State.end_name.Goals as goal

pub invariant_of-self : goal.invariant_of-self
invariant_of-self c = let may = rw (← c.self.view_is) at c.requires in settled_by c.self.inside.rows _ c.self.view_is c.self.invariant (EndName c.args.directory c.args.name.now) c.requires tt _ (rw c.kill_found.ensures refl) (record { queue = rw c.kill_found.ensures (dies_queue c.self.inside.rows c.args.directory c.args.name.now may.id c.self.invariant.sound may.stands); book = c.self.invariant.sound.tracked.book; bounds = c.self.invariant.sound.tracked.bounds })
