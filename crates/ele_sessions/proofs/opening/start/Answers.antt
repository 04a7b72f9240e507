use Rattle.std.proofs.Common.{refl}
use Rattle.ele_sessions.proofs.Found.{drafts_insert}
use Rattle.ele_sessions.proofs.opening.start.Goals as goal

pub returns-clause-drafts : goal.returns-clause-drafts
returns-clause-drafts c = rw (c.put_at.ensures, c.reserve.ensures.items) (drafts_insert _ _ _ _ c.requires.gap _ (rw (c.in_ok-draft-2.ensures.same, c.deref_mut.ensures.value, c.in_ok-draft.ensures.ok) refl))
