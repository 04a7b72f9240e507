use Rattle.ele_state.proofs.Words.{Append, ap, refl, shown_of, version_cells, world_of}
use Rattle.ele_state.proofs.Grown.{grown_tracked, none_new, roomy}
use Rattle.ele_state.proofs.SoundAfter.{settled_or}
use Rattle.ele_state.proofs.Revived.{held_ready, held_there, restores}
use Rattle.std.proofs.lemmas.Result.{on_err_weaker}
use Rattle.ele_state.specs.Source.{Version}
use Rattle.ele_state.proofs.State.revert_to.Goals as goal

pub head-head-requires : goal.head-head-requires
head-head-requires c = held_there c.self.inside.rows c.args.file c.args.number c.self.invariant.sound (rw (← c.self.view_is) at c.requires.held)

pub append-requires-clause-absent : goal.append-requires-clause-absent
append-requires-clause-absent c = none_new c.self.inside.rows c.args.file c.self.invariant.sound (held_there c.self.inside.rows c.args.file c.args.number c.self.invariant.sound (rw (← c.self.view_is) at c.requires.held)) c.head-head.result.policy c.head-head.ensures.policy

pub append-requires-clause-roomy : goal.append-requires-clause-roomy
append-requires-clause-roomy c = roomy c.self.inside.rows c.self.invariant.sound

pub append-requires-clause-ready : goal.append-requires-clause-ready
append-requires-clause-ready c = held_ready c.self.inside.rows c.args.file c.args.number c.self.invariant.sound (rw (← c.self.view_is) at c.requires.held) (rw (← c.self.view_is) at c.requires.undrafted)

pub invariant_of-self : goal.invariant_of-self
invariant_of-self c =
    let rows = c.self.inside.rows in
    let number = c.args.number in
    let sound = c.self.invariant.sound in
    let held = rw (← c.self.view_is) at c.requires.held in
    let is = (held_ready rows c.args.file number sound held (rw (← c.self.view_is) at c.requires.undrafted)).is in
    let may = restores rows c.args.file number sound held (rw (← c.self.view_is) at c.requires.room) in
    settled_or rows (shown_of rows) refl c.self.invariant c.append.result (Append c.args.file rows.moment (version_cells (world_of rows) c.args.file number)) may tt c.append.new.rows c.append.ensures.ok (on_err_weaker c.append.result (ap world_of) c.append.ensures.err)
    (grown_tracked rows c.args.file sound (held_there rows c.args.file number sound held) c.head-head.result.policy c.head-head.ensures.policy (Version number) is c.append.new.rows c.append.result c.append.ensures.ok c.append.ensures.err c.append.ensures.come c.append.ensures.same c.append.ensures.book c.append.ensures.limits)
