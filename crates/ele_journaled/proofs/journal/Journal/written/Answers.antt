use Rattle.std.proofs.Common.{◌∙◌, ap, sym}
use Rattle.ele_journaled.specs.JournalState.{JournalState}
use Rattle.ele_journaled.proofs.journal.Journal.written.Goals as goal

pub confirm-requires : goal.confirm-requires
confirm-requires c = ap (λ (j : JournalState). j.offer) (sym c.self.view_is) ∙ c.in-Some.is
