use Rattle.std.proofs.Common.{subst}
use Rattle.ele_history.specs.Legal.{KeepHeadline}
use Rattle.ele_history.specs.Past.{Past}
use Rattle.ele_history.proofs.Promised.{keep}
use Rattle.ele_history.proofs.History.entries.Goals as goal

pub returns-clause-headline : goal.returns-clause-headline
returns-clause-headline g c = subst (λ (past : Past). KeepHeadline past.base past.entries) c.self.view_is (keep c.headline.ensures _ _ c.self.invariant.legal)
