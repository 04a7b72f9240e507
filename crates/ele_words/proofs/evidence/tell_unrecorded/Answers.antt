use Rattle.ele_output.proofs.Known.{reports_all}
use Rattle.ele_words.proofs.evidence.tell_unrecorded.Goals as goal

pub returns-clause-told : goal.returns-clause-told
returns-clause-told g c = (c.put_unrecorded.ensures.0, c.put_unrecorded.ensures.1, reports_all c.put_unrecorded.ensures.2 c.flush.ensures)
