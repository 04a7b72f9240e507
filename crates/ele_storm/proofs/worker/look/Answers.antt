use Rattle.ele_storm.proofs.Works.{looked_at}
use Rattle.ele_storm.proofs.worker.look.Goals as goal

pub returns-clause-ok : goal.returns-clause-ok
returns-clause-ok g c =
    looked_at c.args.seat.now c.make.new.seat c.make-2.new.seat c.args.writer c.in_ok-file.file c.in_ok-first.first c.in_ok-file.ensures c.in_ok-first.ensures c.in_ok-make.ensures.ok c.in_ok-make-2.ensures.ok
