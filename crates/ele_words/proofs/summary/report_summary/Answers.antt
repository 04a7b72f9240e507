use Rattle.ele_output.proofs.Known.{reports_all}
use Rattle.ele_words.proofs.summary.report_summary.Goals as goal

pub returns-in-Some : goal.returns-in-Some
returns-in-Some g c = (c.first_of.result, c.first_of.ensures, rw c.in-Some.is (reports_all c.put_summary.ensures c.flush.ensures))

pub returns-in-None : goal.returns-in-None
returns-in-None g c = (c.first_of.result, c.first_of.ensures, rw c.in-None.is c.flush-in-None.ensures)
