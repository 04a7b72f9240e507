use Rattle.ele_output.proofs.Known.{reports_all}
use Rattle.ele_runs.proofs.note.report_why.Goals as goal

pub returns : goal.returns
returns g c = reports_all c.put_why.ensures c.flush.ensures
