use Rattle.ele_runs.proofs.Basics.{sym, ◌∙◌}
use Rattle.ele_runs.proofs.Blocks.{kept_heard, kept_long, kept_silent}
use Rattle.ele_runs.proofs.said.hear_kept.Goals as goal

pub returns-in_default : goal.returns-in_default
returns-in_default g c = rw c.in_default.is (kept_long _ _)

pub returns-then-has_no_reply : goal.returns-then-has_no_reply
returns-then-has_no_reply g c = rw c.in-Some.is (kept_silent _ _ _ (sym c.has_no_reply.ensures ∙ c.if-has_no_reply.true))

pub returns : goal.returns
returns g c = rw c.in-Some.is (kept_heard _ _ _ _ _ (sym c.has_no_reply.ensures ∙ c.if-has_no_reply.false) c.hear.ensures)
