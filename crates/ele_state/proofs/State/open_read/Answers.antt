use Rattle.ele_state.proofs.Words.{◌+◌, OpenHandle, Version, refl}
use Rattle.ele_state.proofs.OpenedKeys.{read_queue}
use Rattle.ele_state.proofs.SoundAfter.{settled_by}
use Rattle.ele_state.proofs.State.open_read.Goals as goal

pub invariant_of-self-2 : goal.invariant_of-self-2
invariant_of-self-2 c =
    let change = OpenHandle (c.self.inside.rows.files.opened + 1) (Version c.args.file c.args.number) in
    settled_by c.self.inside.rows _ c.self.view_is c.self.invariant change (record { next = rw (← c.self.view_is) refl; room = c.requires.room; drafted = tt; held = c.requires.held }) tt _ (rw c.in_ok-handle.ensures.ok refl)
    (rw c.in_ok-handle.ensures.ok (record { queue = read_queue c.self.inside.rows (c.self.inside.rows.files.opened + 1) c.args.file c.args.number c.take.new.queue c.self.invariant.sound (rw c.free_moment-moment.ensures at c.take.ensures); book = c.self.invariant.sound.tracked.book; bounds = c.self.invariant.sound.tracked.bounds }))
