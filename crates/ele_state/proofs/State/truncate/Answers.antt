use Rattle.ele_state.proofs.Words.{refl, TruncateDraft}
use Rattle.ele_state.proofs.Booked.{fits, fitted_owed}
use Rattle.ele_state.proofs.SoundAfter.{settled_by}
use Rattle.ele_state.proofs.State.truncate.Goals as goal

pub follow_blocks-requires-clause-owed : goal.follow_blocks-requires-clause-owed
follow_blocks-requires-clause-owed c = fitted_owed c.self.inside.rows c.args.file c.args.size c.truncate.new.self c.blocks-before.result c.self.invariant.sound.tracked c.blocks-before.ensures.value c.in_ok-truncate.ensures.ok

pub follow_blocks-requires-clause-fits : goal.follow_blocks-requires-clause-fits
follow_blocks-requires-clause-fits c = fits c.self.inside.rows c.self.invariant.sound

pub invariant_of-self-2 : goal.invariant_of-self-2
invariant_of-self-2 c =
    let after = c.in_ok-truncate.ensures.ok in
    settled_by c.self.inside.rows _ c.self.view_is c.self.invariant (TruncateDraft c.args.file c.args.size) c.requires.short tt _ (rw after refl) (rw after (record { queue = c.self.invariant.sound.tracked.queue; book = rw after at c.follow_blocks.ensures; bounds = c.self.invariant.sound.tracked.bounds }))
