use Rattle.ele_sessions.proofs.Words.{sessions_of}
use Rattle.ele_sessions.proofs.Keepings.{rewritten_keeps}
use Rattle.ele_sessions.proofs.sessions.Sessions.write_draft.Goals as goal

pub invariant_of-self-2 : goal.invariant_of-self-2
invariant_of-self-2 c = rewritten_keeps (sessions_of c.self.inside) c.self.inside.counts c.self.invariant _ _ _ c.in_ok-write_draft.ensures.made
