use Rattle.ele_state.proofs.Words.{MakeGroup, refl}
use Rattle.ele_state.proofs.Marked.{group_made}
use Rattle.ele_state.proofs.SoundAfter.{settled_by}
use Rattle.ele_state.proofs.State.make_group.Goals as goal

pub invariant_of-self-2 : goal.invariant_of-self-2
invariant_of-self-2 c = settled_by c.self.inside.rows _ c.self.view_is c.self.invariant (MakeGroup c.args.name.now) (record { room = c.requires.room; free = c.requires.free }) tt _ (rw c.in_ok-add_group.ensures.ok refl) (rw c.in_ok-add_group.ensures.ok (record { queue = group_made c.self.inside.rows c.args.name.now c.self.invariant.sound; book = c.self.invariant.sound.tracked.book; bounds = c.self.invariant.sound.tracked.bounds }))
