use Rattle.std.proofs.lemmas.Result.{IfOk-weaker}
use Rattle.ele_evidence.proofs.FirstLine.{asked_row, asks_row}
use Rattle.ele_evidence.proofs.checking.event_before.Goals as goal

pub returns-in-Some-clause-found : goal.returns-in-Some-clause-found
returns-in-Some-clause-found c =
    IfOk-weaker c.first_event.result _ _ (λ event asks. asks_row _ _ event c.in-Some.ensures asks) c.first_event.ensures.found

pub returns-in-Some-clause-only : goal.returns-in-Some-clause-only
returns-in-Some-clause-only c event asked = c.first_event.ensures.only event (asked_row _ _ event c.in-Some.ensures asked)
