use Rattle.ele_shared_history.proofs.Rests.{idle_after, truth}
use Rattle.ele_shared_history.proofs.Shared.try_call.Goals as goal

pub invariant_of-seat : goal.invariant_of-seat
invariant_of-seat g c = idle_after c.seat.inside.place.me c.attempt.new.place.me c.args.event _ c.attempt.result c.seat.invariant c.attempt.ensures.ok c.attempt.ensures.err

pub returns-clause-seat : goal.returns-clause-seat
returns-clause-seat g c = truth c.attempt.new.place.table_id c.attempt.new.place.me
    (idle_after c.seat.inside.place.me c.attempt.new.place.me c.args.event _ c.attempt.result c.seat.invariant c.attempt.ensures.ok c.attempt.ensures.err)
