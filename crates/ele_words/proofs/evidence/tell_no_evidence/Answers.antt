use Rattle.ele_output.proofs.Known.{reports_all}
use Rattle.ele_words.proofs.evidence.tell_no_evidence.Goals as goal

pub returns-clause-told : goal.returns-clause-told
returns-clause-told g c = reports_all c.put.ensures c.flush.ensures
