use Rattle.std.proofs.Common.{◌≡◌, ◌+◌, length}
use Rattle.ele_storm.proofs.Halving.{all_calls, all_run}
use Rattle.ele_storm.proofs.storms.storm.Goals as goal

pub returns-clause-own : goal.returns-clause-own
returns-clause-own g c =
    let first : length c.split.new.seat.own ≡ length c.args.seat.now.own + 1 + c.args.plan.now.writers = rw c.split.ensures.unchanged c.in_ok-prepare.ensures.own in
    let ran = rw (c.in_ok-ended.was, c.workers.ensures) at c.run-part.ensures.own in
    rw c.events.ensures
    (all_run c.args.plan.now c.args.seat.now c.split.new.seat c.in_ok-part.part c.run-part.result.0 c.join.new.seat first c.in_ok-part.ensures.ok.0.own ran c.join.ensures.0)

pub returns-clause-calls : goal.returns-clause-calls
returns-clause-calls g c =
    let ran = rw (c.in_ok-ended.was, c.workers.ensures) at (c.run-part.ensures.calls c.in_ok-part.ensures.ok.0.own) in
    all_calls c.args.plan.now c.args.seat.now c.split.new.seat c.run-part.result.0 c.join.new.seat (rw c.split.ensures.unchanged c.in_ok-prepare.ensures.calls) ran c.join.ensures.0
