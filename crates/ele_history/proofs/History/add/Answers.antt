use Rattle.std.proofs.Common.{sym, subst}
use Rattle.ele_history.specs.Past.{HasRoom, Past}
use Rattle.ele_history.proofs.Growth.{grown}
use Rattle.ele_history.proofs.History.add.Goals as goal

pub invariant_of-self-in-Ok : goal.invariant_of-self-in-Ok
invariant_of-self-in-Ok g c =
    let h = c.self.inside in
    let past : Past = record { base = h.base; folded = h.folded; entries = h.entries.items } in
    let room : HasRoom past = subst HasRoom (sym c.self.view_is) (c.is_full.ensures.room c.if-is_full.false) in
    rw (c.push_reserved.ensures.items, c.reserve.ensures.items) (grown past c.args.event c.in-Ok.answer (g.C.Step.world h.core) (g.C.Step.world c.apply.new.self) c.self.invariant c.in-Ok.ensures.event c.in-Ok.ensures.step room)
