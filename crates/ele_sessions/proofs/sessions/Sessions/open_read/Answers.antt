use Rattle.std.proofs.Common.{refl}
use Rattle.ele_sessions.specs.Kept.{sessions_of}
use Rattle.ele_sessions.proofs.Keepings.{entered_keeps}
use Rattle.ele_sessions.proofs.Orders.{reader_entered}
use Rattle.ele_sessions.proofs.sessions.Sessions.open_read.Goals as goal

pub invariant_of-self-2 : goal.invariant_of-self-2
invariant_of-self-2 c =
    let s = sessions_of c.self.inside in
    let orderly = reader_entered s c.self.invariant.orderly _ refl c.args.file c.args.version refl in
    rw (c.enter.ensures.handles, c.reserve.ensures.items) (entered_keeps s c.self.inside.counts c.self.invariant _ s.drafts c.reserve-2.new.self c.enter.new.counts orderly c.reserve-2.ensures.same c.enter.ensures.counts)
