use Rattle.std.proofs.lemmas.Result.{IfOk-weaker}
use Rattle.ele_evidence.proofs.FirstLine.{asked_line, asked_none, asks_first}
use Rattle.ele_evidence.proofs.checking.first_event.Goals as goal

pub returns-in-Some-clause-found : goal.returns-in-Some-clause-found
returns-in-Some-clause-found c =
    IfOk-weaker c.read_event.result _ _ (λ event asks. asks_first _ _ event c.in-Some.ensures (rw c.split_at.ensures.front at asks)) c.read_event.ensures.found

pub returns-in-Some-clause-only : goal.returns-in-Some-clause-only
returns-in-Some-clause-only c event asked =
    c.read_event.ensures.only event (rw c.split_at.ensures.front (asked_line _ _ event c.in-Some.ensures asked))

pub returns-in-None-clause-only : goal.returns-in-None-clause-only
returns-in-None-clause-only c event asked = absurd (asked_none _ event c.in-None.ensures asked)
