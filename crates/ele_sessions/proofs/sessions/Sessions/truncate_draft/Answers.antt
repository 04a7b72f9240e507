use Rattle.ele_sessions.proofs.Words.{sessions_of}
use Rattle.ele_sessions.proofs.Keepings.{resized_keeps}
use Rattle.ele_sessions.proofs.sessions.Sessions.truncate_draft.Goals as goal

pub invariant_of-self-2 : goal.invariant_of-self-2
invariant_of-self-2 c = resized_keeps (sessions_of c.self.inside) c.self.inside.counts c.self.invariant _ _ _ c.args.file c.args.size c.in_ok-truncate_draft.ensures.made
