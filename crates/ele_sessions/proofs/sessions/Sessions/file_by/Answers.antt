use Rattle.ele_sessions.proofs.Words.{sessions_of}
use Rattle.ele_sessions.proofs.Keepings.{file_drafted}
use Rattle.ele_sessions.proofs.sessions.Sessions.file_by.Goals as goal

pub returns-clause-drafted : goal.returns-clause-drafted
returns-clause-drafted c = rw (← c.self.view_is) (file_drafted (sessions_of c.self.inside) c.self.inside.counts c.self.invariant c.args.handle c.file_by.result (rw c.deref.ensures.value at c.file_by.ensures))
