use Rattle.ele_state.proofs.Words.{MoveName, refl}
use Rattle.ele_state.proofs.NewNames.{dies_before, follows_new, moved_queue}
use Rattle.ele_state.proofs.SoundAfter.{named, settled_by}
use Rattle.ele_state.proofs.State.move_name.Goals as goal

pub add-requires : goal.add-requires
add-requires c = rw c.target.ensures (follows_new c.self.inside.rows c.args.to.now.0 c.args.to.now.1 c.args.found.now c.self.invariant.sound (rw (← c.self.view_is) at c.requires.free))

pub invariant_of-self-2 : goal.invariant_of-self-2
invariant_of-self-2 c =
    let before = dies_before c.self.inside.rows.names c.args.from.now.0 c.args.from.now.1 c.args.to.now.0 c.args.to.now.1 c.args.found.now c.self.inside.rows.moment (rw (← c.self.view_is) at c.requires.stands) (rw (← c.self.view_is) at c.requires.free) in
    settled_by c.self.inside.rows _ c.self.view_is c.self.invariant (MoveName c.args.from.now.0 c.args.from.now.1 c.args.to.now.0 c.args.to.now.1 c.args.found.now)
    (record { stands = c.requires.stands; named = named _ c.args.to.now.0 c.args.to.now.1 c.requires.home c.requires.free c.requires.room })
    tt _ (rw (c.kill_found.ensures, c.in_ok-add.ensures.ok, c.target.ensures, before) refl) (record { queue = rw (c.kill_found.ensures, c.in_ok-add.ensures.ok, c.target.ensures) (moved_queue c.self.inside.rows c.args.from.now.0 c.args.from.now.1 c.args.to.now.0 c.args.to.now.1 c.args.found.now c.self.invariant.sound (rw (← c.self.view_is) at c.requires.stands) (rw (← c.self.view_is) at c.requires.free)); book = c.self.invariant.sound.tracked.book; bounds = c.self.invariant.sound.tracked.bounds })
