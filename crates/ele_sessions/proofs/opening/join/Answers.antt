use Rattle.std.proofs.Common.{arith}
use Rattle.ele_sessions.proofs.Found.{some_draft, no_draft}
use Rattle.ele_sessions.proofs.opening.join.Goals as goal

pub returns-in_ok-start-clause-drafts : goal.returns-in_ok-start-clause-drafts
returns-in_ok-start-clause-drafts c = grind (arith, c.deref.ensures.value, c.in-Err.ensures.gap, no_draft c.args.drafts.now.items c.args.spec.file c.in-Err.at, c.in_ok-start.ensures.drafts)

pub returns-in_ok-start-clause-opens : goal.returns-in_ok-start-clause-opens
returns-in_ok-start-clause-opens c = grind (arith, c.deref.ensures.value, c.in-Err.ensures.gap, no_draft c.args.drafts.now.items c.args.spec.file c.in-Err.at, c.in_ok-start.ensures.moves)

pub returns-in_default-clause-drafts : goal.returns-in_default-clause-drafts
returns-in_default-clause-drafts c = grind (arith, c.deref.ensures.value, c.in_default.ensures.found, some_draft c.args.drafts.now.items c.args.spec.file c.in_default.field-0)

pub returns-in_default-clause-opens : goal.returns-in_default-clause-opens
returns-in_default-clause-opens c = grind (arith, c.deref.ensures.value, c.in_default.ensures.found, some_draft c.args.drafts.now.items c.args.spec.file c.in_default.field-0)
