use Rattle.std.proofs.Common.{rules}
use Rattle.ele_runs.proofs.Notes.{noted_bad}
use Rattle.ele_runs.proofs.runner.Runner.tell_reason.Goals as goal

pub returns-in-Some : goal.returns-in-Some
returns-in-Some g c =
    rw (c.in-Bad.is, ← c.self.view_is) (noted_bad _ _ _ c.in-Bad.field-0 c.in-Some.why _ _ (search rules) c.in-Some.ensures.some c.report_why.ensures)
