use Rattle.ele_sessions.proofs.Basics.{refl, sym}
use Rattle.ele_sessions.proofs.Words.{sessions_of}
use Rattle.ele_sessions.proofs.Keepings.{written_by, draft_there}
use Rattle.ele_sessions.proofs.sessions.Sessions.truncate.Goals as goal

pub truncate_draft-requires-clause-there : goal.truncate_draft-requires-clause-there
truncate_draft-requires-clause-there c = rw (← c.self.view_is) (draft_there (sessions_of c.self.inside) c.self.inside.counts c.self.invariant c.args.handle _ (written_by c.self.inside.handles.items c.args.handle c.in_ok-file.file (sym (rw c.deref.ensures.value at c.in_ok-file.ensures.file))) c.in_ok-file.file refl)
