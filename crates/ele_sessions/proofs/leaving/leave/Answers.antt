use Rattle.std.proofs.Common.{arith}
use Rattle.ele_sessions.proofs.Found.{not_missing, found_draft, draft_gone}
use Rattle.ele_sessions.proofs.leaving.leave.Goals as goal

pub unreachable-requires : goal.unreachable-requires
unreachable-requires c = grind (arith, c.deref.ensures.value, c.in_default.ensures.gap, not_missing c.args.drafts.now.items c.args.file c.in_default.field-0)

pub returns-clause-answer : goal.returns-clause-answer
returns-clause-answer c = grind (arith, c.if-stays.false, c.deref.ensures.value, c.in-Ok.ensures.found, c.remove-entry.ensures.value, found_draft c.args.drafts.now.items c.args.file c.in-Ok.at c.remove-entry.result, c.ending-closing.ensures, c.into_inner-draft.ensures)

pub returns-clause-drafts : goal.returns-clause-drafts
returns-clause-drafts c = grind (arith, c.if-stays.false, c.deref.ensures.value, c.in-Ok.ensures.found, c.remove-entry.ensures.items, draft_gone c.args.drafts.now.items c.args.file c.in-Ok.at)
