use Rattle.ele_storm.proofs.Halving.{one_runs}
use Rattle.ele_storm.proofs.halves.work_alone.Goals as goal

pub returns-in-Ok : goal.returns-in-Ok
returns-in-Ok g c =
    one_runs c.args.plan c.args.worker _ c.args.seat.now c.work.new.seat c.requires.worker c.in-Ok.ensures.ok c.in-Ok.ensures.count c.in-Ok.ensures.seen
