use Rattle.ele_sessions.proofs.Basics.{arith}
use Rattle.ele_sessions.proofs.Words.{sessions_of}
use Rattle.ele_sessions.proofs.Keepings.{reader_keeps, writer_keeps, stays_now, draft_there}
use Rattle.ele_sessions.proofs.sessions.Sessions.close_found.Goals as goal

pub leave-requires-clause-there : goal.leave-requires-clause-there
leave-requires-clause-there c = draft_there (sessions_of c.self.inside) c.self.inside.counts c.self.invariant c.args.found.now.row.number c.take_found.result c.take_found.ensures.reads c.in-Draft.file c.in-Draft.is

pub invariant_of-self : goal.invariant_of-self
invariant_of-self c = grind (arith, c.leave.ensures.drafts, c.take_found.ensures.left, c.count-stays.ensures, c.in-Draft.is, c.take.ensures, stays_now (sessions_of c.self.inside) c.self.inside.counts c.self.invariant c.args.found.now.row.number c.take_found.result c.take_found.ensures.reads c.take.new.self, writer_keeps (sessions_of c.self.inside) c.self.inside.counts c.self.invariant c.args.found.now.row.number c.take_found.result c.take_found.ensures.reads c.take.new.self)

pub invariant_of-self-in-Version : goal.invariant_of-self-in-Version
invariant_of-self-in-Version c = rw c.take_found.ensures.left (reader_keeps (sessions_of c.self.inside) c.self.inside.counts c.self.invariant c.args.found.now.row.number c.take_found.result c.take_found.ensures.reads c.take-in-Version.new.self (rw c.in-Version.is c.take-in-Version.ensures) c.in-Version.file c.in-Version.number c.in-Version.is)

pub returns-in-Draft-clause-answer : goal.returns-in-Draft-clause-answer
returns-in-Draft-clause-answer c = grind (arith, c.self.view_is, c.leave.ensures.answer, c.take_found.ensures.reads, c.count-stays.ensures, c.in-Draft.is, c.take.ensures, stays_now (sessions_of c.self.inside) c.self.inside.counts c.self.invariant c.args.found.now.row.number c.take_found.result c.take_found.ensures.reads c.take.new.self)

pub returns-in-Draft-clause-sessions : goal.returns-in-Draft-clause-sessions
returns-in-Draft-clause-sessions c = grind (arith, c.self.view_is, c.leave.ensures.drafts, c.take_found.ensures, c.count-stays.ensures, c.in-Draft.is, c.take.ensures, stays_now (sessions_of c.self.inside) c.self.inside.counts c.self.invariant c.args.found.now.row.number c.take_found.result c.take_found.ensures.reads c.take.new.self)
