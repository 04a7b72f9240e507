use Rattle.ele_storm.proofs.Halving.{all_rounds}
use Rattle.ele_storm.proofs.worker.work.Goals as goal

pub returns-clause-ok : goal.returns-clause-ok
returns-clause-ok g c =
    all_rounds c.args.plan.now c.args.worker c.count_of.result c.task-task.result c.args.seat.now c.run_rounds.new.seat c.task-task.ensures c.count_of.ensures c.in_ok-run_rounds.ensures.ok
