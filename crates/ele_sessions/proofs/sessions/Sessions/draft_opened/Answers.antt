use Rattle.ele_sessions.proofs.Basics.{refl, arith}
use Rattle.ele_sessions.proofs.Words.{IsAt, file_in}
use Rattle.ele_sessions.proofs.Found.{found_draft, missing_draft}
use Rattle.ele_sessions.proofs.sessions.Sessions.draft_opened.Goals as goal

pub returns-in_default : goal.returns-in_default
returns-in_default c = grind (arith, c.self.view_is, c.deref.ensures.value, c.in_default.ensures.gap, missing_draft c.self.inside.drafts.items c.args.file c.in_default.field-0)

pub returns : goal.returns
returns c =
    let at : IsAt file_in c.args.file c.self.inside.drafts.items c.in-Ok.at = rw c.deref.ensures.value at c.in-Ok.ensures.found in
    rw (← c.self.view_is, found_draft _ _ _ _ at c.index.ensures, c.deref-draft.ensures) refl
