use Rattle.ele_state.proofs.Words.{AddName, refl}
use Rattle.ele_state.proofs.NewNames.{follows_new, more_queue}
use Rattle.ele_state.proofs.SoundAfter.{named, settled_by}
use Rattle.ele_state.proofs.State.add_name.Goals as goal

pub add-requires : goal.add-requires
add-requires c = follows_new c.self.inside.rows c.args.directory c.args.name c.args.target c.self.invariant.sound (rw (← c.self.view_is) at c.requires.free)

pub invariant_of-self-2 : goal.invariant_of-self-2
invariant_of-self-2 c = settled_by c.self.inside.rows _ c.self.view_is c.self.invariant (AddName c.args.directory c.args.name c.args.target)
    (record { named = named _ c.args.directory c.args.name c.requires.home c.requires.free c.requires.room; there = c.requires.there.file; housed = c.requires.there.directory; more = c.requires.more })
    tt _ (rw c.in_ok-add.ensures.ok refl) (record { queue = rw c.in_ok-add.ensures.ok (more_queue c.self.inside.rows c.args.directory c.args.name c.args.target c.self.invariant.sound (rw (← c.self.view_is) at c.requires.more)); book = c.self.invariant.sound.tracked.book; bounds = c.self.invariant.sound.tracked.bounds })
