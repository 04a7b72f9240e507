use Rattle.std.proofs.Common.{refl}
use Rattle.ele_sessions.proofs.Found.{not_missing, found_draft}
use Rattle.ele_sessions.proofs.leaving.peek.Goals as goal

pub unreachable-requires : goal.unreachable-requires
unreachable-requires c = not_missing _ _ _ c.in_default.ensures.gap c.requires.there

pub returns : goal.returns
returns c = rw (c.if-stays.false, found_draft _ _ _ _ c.in-Ok.ensures.found c.index-drafts-at.is, c.ending.ensures) refl
