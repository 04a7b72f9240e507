use Rattle.ele_output.proofs.Known.{reports_all}
use Rattle.ele_words.proofs.system_reason.report_error.Goals as goal

pub returns-clause-told : goal.returns-clause-told
returns-clause-told g c = reports_all c.put_failed.ensures c.flush.ensures
