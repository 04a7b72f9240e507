use Rattle.ele_sessions.proofs.Basics.{arith}
use Rattle.ele_sessions.proofs.Words.{IsAt, file_in, draft_in}
use Rattle.ele_sessions.proofs.Found.{not_missing, found_draft, drafts_stay, rewrites}
use Rattle.ele_sessions.proofs.changing.write_draft.Goals as goal

pub unreachable-requires : goal.unreachable-requires
unreachable-requires c = grind (arith, c.deref.ensures.value, c.in_default.ensures.gap, not_missing c.args.drafts.now.items c.args.file c.in_default.field-0)

pub write-requires-clause-lives : goal.write-requires-clause-lives
write-requires-clause-lives c =
    let at : IsAt file_in c.args.file c.args.drafts.now.items c.in-Ok.at = rw c.deref.ensures.value at c.in-Ok.ensures.found in
    rw c.deref_mut.ensures.value (c.requires.lives (draft_in c.index_mut-entry.result.now) (found_draft _ _ _ _ at c.index_mut-entry.ensures.value))

pub returns-clause-made : goal.returns-clause-made
returns-clause-made c = grind (arith, c.deref.ensures.value, c.in-Ok.ensures.found, c.in_ok-write.ensures, c.deref_mut.ensures.value, rewrites c.args.drafts.now.items c.args.file c.in-Ok.at c.index_mut-entry.result.now)

pub returns-in_err-write-clause-err : goal.returns-in_err-write-clause-err
returns-in_err-write-clause-err c = grind (arith, c.deref.ensures.value, c.in-Ok.ensures.found, c.in_err-write.ensures.err, c.deref_mut.ensures.value, drafts_stay c.args.drafts.now.items c.args.file c.in-Ok.at c.index_mut-entry.result.now)
