use Rattle.ele_sessions.proofs.Basics.{arith, nat_tests}
use Rattle.ele_sessions.proofs.Words.{IsAt, file_in, draft_in}
use Rattle.ele_sessions.proofs.Found.{not_missing, found_draft, drafts_stay, rewrites}
use Rattle.ele_sessions.proofs.changing.truncate_draft.Goals as goal

pub unreachable-requires : goal.unreachable-requires
unreachable-requires c = grind (arith, c.deref.ensures.value, c.in_default.ensures.gap, not_missing c.args.drafts.now.items c.args.file c.in_default.field-0)

pub returns-then-length-size-clause-made : goal.returns-then-length-size-clause-made
returns-then-length-size-clause-made c = grind (arith, nat_tests, c.deref.ensures.value, c.in-Ok.ensures.found, c.deref-2.ensures, c.length.ensures, found_draft c.args.drafts.now.items c.args.file c.in-Ok.at c.index_mut-entry.result.now, drafts_stay c.args.drafts.now.items c.args.file c.in-Ok.at c.index_mut-entry.result.now)

pub truncate-requires-clause-lives : goal.truncate-requires-clause-lives
truncate-requires-clause-lives c =
    let at : IsAt file_in c.args.file c.args.drafts.now.items c.in-Ok.at = rw c.deref.ensures.value at c.in-Ok.ensures.found in
    rw c.deref_mut.ensures.value (c.requires.lives (draft_in c.index_mut-entry.result.now) (found_draft _ _ _ _ at c.index_mut-entry.ensures.value))

pub returns-in_err-truncate-clause-idle : goal.returns-in_err-truncate-clause-idle
returns-in_err-truncate-clause-idle c = grind (arith, nat_tests, c.deref.ensures.value, c.in-Ok.ensures.found, c.deref-2.ensures, c.length.ensures, found_draft c.args.drafts.now.items c.args.file c.in-Ok.at c.index_mut-entry.result.now)

pub returns-in_err-truncate-clause-err : goal.returns-in_err-truncate-clause-err
returns-in_err-truncate-clause-err c = grind (arith, c.deref.ensures.value, c.in-Ok.ensures.found, c.in_err-truncate.ensures.err, c.deref_mut.ensures.value, drafts_stay c.args.drafts.now.items c.args.file c.in-Ok.at c.index_mut-entry.result.now)

pub returns-clause-made : goal.returns-clause-made
returns-clause-made c = grind (arith, nat_tests, c.deref.ensures.value, c.in-Ok.ensures.found, c.deref-2.ensures, c.length.ensures, found_draft c.args.drafts.now.items c.args.file c.in-Ok.at c.index_mut-entry.result.now, c.in_ok-truncate.ensures, c.deref_mut.ensures.value, rewrites c.args.drafts.now.items c.args.file c.in-Ok.at c.index_mut-entry.result.now)
