use Rattle.ele_state.proofs.Words.{Append, IsSource, ap, cells_by, next_of, refl, shown_of, world_of}
use Rattle.ele_state.proofs.Grown.{grown_tracked, none_new, ready, roomy}
use Rattle.ele_model.proofs.Allowed.{saved_is}
use Rattle.ele_state.proofs.SoundAfter.{settled_or}
use Rattle.std.proofs.lemmas.Result.{on_err_weaker}
use Rattle.ele_state.specs.Source.{Bytes}
use Rattle.ele_state.proofs.State.save.Goals as goal

pub append-requires-clause-absent : goal.append-requires-clause-absent
append-requires-clause-absent c = none_new c.self.inside.rows c.args.file c.self.invariant.sound (rw (← c.self.view_is) at c.requires.there) c.head-head.result.policy c.head-head.ensures.policy

pub append-requires-clause-roomy : goal.append-requires-clause-roomy
append-requires-clause-roomy c = roomy c.self.inside.rows c.self.invariant.sound

pub append-requires-clause-ready : goal.append-requires-clause-ready
append-requires-clause-ready c =
    let is : IsSource c.self.inside.rows.files c.args.file (Bytes c.args.bytes.now) = record { there = rw (← c.self.view_is) at c.requires.there; undrafted = rw (← c.self.view_is) at c.requires.undrafted; short = c.requires.short } in
    ready c.self.inside.rows c.args.file (Bytes c.args.bytes.now) c.self.invariant.sound is

pub invariant_of-self : goal.invariant_of-self
invariant_of-self c =
    let rows = c.self.inside.rows in
    let there = rw (← c.self.view_is) at c.requires.there in
    let is : IsSource rows.files c.args.file (Bytes c.args.bytes.now) = record { there = there; undrafted = rw (← c.self.view_is) at c.requires.undrafted; short = c.requires.short } in
    let may = saved_is (world_of rows) c.args.file c.args.bytes.now there c.requires.short (rw (← c.self.view_is) at c.requires.room) in
    settled_or rows (shown_of rows) refl c.self.invariant c.append.result (Append c.args.file rows.moment (cells_by (next_of rows.files.files c.args.file) c.args.bytes.now)) may tt c.append.new.rows c.append.ensures.ok (on_err_weaker c.append.result (ap world_of) c.append.ensures.err)
    (grown_tracked rows c.args.file c.self.invariant.sound there c.head-head.result.policy c.head-head.ensures.policy (Bytes c.args.bytes.now) is c.append.new.rows c.append.result c.append.ensures.ok c.append.ensures.err c.append.ensures.come c.append.ensures.same c.append.ensures.book c.append.ensures.limits)
