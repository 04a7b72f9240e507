use Rattle.ele_shared_history.proofs.Rests.{idle_after, truth}
use Rattle.ele_shared_history.proofs.Shared.call.Goals as goal

pub invariant_of-seat : goal.invariant_of-seat
invariant_of-seat g c = idle_after c.seat.inside.place.me c.insist.new.place.me c.args.event _ c.insist.result c.seat.invariant c.insist.ensures.ok c.insist.ensures.err

pub returns-clause-seat : goal.returns-clause-seat
returns-clause-seat g c = truth c.insist.new.place.table_id c.insist.new.place.me
    (idle_after c.seat.inside.place.me c.insist.new.place.me c.args.event _ c.insist.result c.seat.invariant c.insist.ensures.ok c.insist.ensures.err)
