use Rattle.ele_sessions.proofs.Basics.{refl}
use Rattle.ele_sessions.proofs.Words.{sessions_of, new_draft}
use Rattle.ele_sessions.proofs.Keepings.{entered_keeps}
use Rattle.ele_sessions.proofs.Orders.{writer_entered}
use Rattle.ele_sessions.proofs.sessions.Sessions.open_write.Goals as goal

pub invariant_of-self-2 : goal.invariant_of-self-2
invariant_of-self-2 c =
    let s = sessions_of c.self.inside in
    let orderly = writer_entered s c.self.invariant.orderly _ refl (new_draft c.args.file c.args.number c.args.opened c.args.map.now) refl in
    rw (c.enter.ensures.handles, c.reserve.ensures.items, c.in_ok-join.ensures.drafts) (entered_keeps s c.self.inside.counts c.self.invariant _ _ c.reserve-2.new.self c.enter.new.counts orderly c.reserve-2.ensures.same c.enter.ensures.counts)
