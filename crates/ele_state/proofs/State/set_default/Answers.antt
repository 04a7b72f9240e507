use Rattle.ele_state.proofs.Words.{SetDirectoryDefault, refl}
use Rattle.ele_state.proofs.SoundAfter.{settled_by}
use Rattle.ele_state.proofs.State.set_default.Goals as goal

pub invariant_of-self : goal.invariant_of-self
invariant_of-self c = settled_by c.self.inside.rows _ c.self.view_is c.self.invariant (SetDirectoryDefault c.args.directory c.args.policy) c.lemma_valid.ensures.given tt _ (rw c.put_default.ensures refl) (record { queue = c.self.invariant.sound.tracked.queue; book = c.self.invariant.sound.tracked.book; bounds = c.self.invariant.sound.tracked.bounds })
