use Rattle.ele_output.proofs.Known.{reports_all}
use Rattle.ele_words.proofs.strict.report_end.Goals as goal

pub returns-clause-told : goal.returns-clause-told
returns-clause-told g c =
    rw c.in-Some.is (c.why_ended-why.result, c.why_ended-why.ensures, reports_all c.put_line_of_end.ensures c.flush.ensures)
