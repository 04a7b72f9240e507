use Rattle.std.proofs.lemmas.Result.{IfOk-weaker}
use Rattle.ele_evidence.proofs.RowByRow.{stopped}
use Rattle.ele_evidence.proofs.checking.answered_row.Goals as goal

pub returns-in-Ok-clause-ok : goal.returns-in-Ok-clause-ok
returns-in-Ok-clause-ok g c =
    let is = (rw c.in-Ok.is at c.run_event.ensures).1 in
    IfOk-weaker c.newest_row.result _ _ (λ row of. (is, of)) (c.newest_row.ensures.ok _ c.args.event is)

pub returns-in-Err-clause-full : goal.returns-in-Err-clause-full
returns-in-Err-clause-full g c = stopped _ _ c.in-Err.stop (rw c.in-Err.is at c.run_event.ensures)
