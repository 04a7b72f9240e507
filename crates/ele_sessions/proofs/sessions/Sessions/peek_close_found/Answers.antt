use Rattle.ele_sessions.proofs.Basics.{arith}
use Rattle.ele_sessions.proofs.Words.{sessions_of}
use Rattle.ele_sessions.proofs.Keepings.{stays_then, draft_there, stood_reads}
use Rattle.ele_sessions.proofs.sessions.Sessions.peek_close_found.Goals as goal

pub peek-requires-clause-there : goal.peek-requires-clause-there
peek-requires-clause-there c = grind (arith, c.self.view_is, c.requires, c.deref.ensures.value, c.in-Draft.is, stood_reads c.self.inside.handles.items c.args.found.now, draft_there (sessions_of c.self.inside) c.self.inside.counts c.self.invariant c.args.found.now.row.number c.args.found.now.row.reads)

pub returns-in-Draft : goal.returns-in-Draft
returns-in-Draft c = grind (arith, c.self.view_is, c.requires, c.peek.ensures, c.deref.ensures.value, c.count-stays.ensures, c.in-Draft.is, stood_reads c.self.inside.handles.items c.args.found.now, stays_then (sessions_of c.self.inside) c.self.inside.counts c.self.invariant c.args.found.now.row.number c.args.found.now.row.reads)
