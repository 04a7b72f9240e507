use Rattle.ele_storm.proofs.Works.{cleaned}
use Rattle.ele_storm.proofs.worker.run_round.Goals as goal

pub returns-in-Cleaner-clause-ok : goal.returns-in-Cleaner-clause-ok
returns-in-Cleaner-clause-ok g c =
    rw c.in-Cleaner.is (cleaned c.args.plan.now.writers c.args.round c.args.seat.now c.make.new.seat c.make.result c.make.ensures.ok)
