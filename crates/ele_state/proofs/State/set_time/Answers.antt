use Rattle.ele_state.proofs.Words.{Time, refl}
use Rattle.ele_state.proofs.SoundAfter.{settled_by}
use Rattle.ele_state.proofs.State.set_time.Goals as goal

pub invariant_of-self : goal.invariant_of-self
invariant_of-self c = settled_by c.self.inside.rows _ c.self.view_is c.self.invariant (Time c.args.to) (c.requires, c.lemma_in_range.ensures) tt _ refl (record { queue = c.self.invariant.sound.tracked.queue; book = c.self.invariant.sound.tracked.book; bounds = c.self.invariant.sound.tracked.bounds })
