use Rattle.ele_output.proofs.Known.{reports_all}
use Rattle.ele_words.proofs.forecasting.tell_bad_line.Goals as goal

pub returns-clause-told : goal.returns-clause-told
returns-clause-told g c = reports_all c.put_bad_line.ensures c.flush.ensures
