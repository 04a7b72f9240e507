use Rattle.ele_storm.proofs.Audits.{audited}
use Rattle.ele_storm.proofs.audited.storm_and_audit.Goals as goal

pub returns : goal.returns
returns g c =
    audited c.args.limits c.args.plan.now c.in_ok-history.history c.in_ok-events.events c.in_ok-history.equal c.in_ok-shared.shared c.in_ok-shared.seat c.storm.new.seat c.in_ok-shared.ensures
    c.in_ok-events.ensures.count c.in_ok-events.ensures.own c.in_ok-events.ensures.calls c.in_ok-history.ensures.closes c.in_ok-history.ensures.equal
