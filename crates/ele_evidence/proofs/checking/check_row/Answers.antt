use Rattle.std.proofs.lemmas.Result.{IfOk-weaker}
use Rattle.ele_evidence.proofs.Basics.{refl}
use Rattle.ele_evidence.proofs.RowByRow.{ended, no_event}
use Rattle.ele_evidence.proofs.checking.check_row.Goals as goal

pub returns-in-Err-clause-ok : goal.returns-in-Err-clause-ok
returns-in-Err-clause-ok g c =
    IfOk-weaker c.check_end.result _ _
    (λ checked is. ended _ _ _ _ checked refl (no_event _ _ c.in-Err.fault c.in-Err.is is.1 c.event_before.ensures.only) (rw c.entries.ensures.value at is.0))
    c.check_end.ensures
