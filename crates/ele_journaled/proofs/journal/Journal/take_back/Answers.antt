use Rattle.std.proofs.Common.{◌<◌, length, subst, sym}
use Rattle.std.specs.Prelude.{IfSome}
use Rattle.ele_journaled.specs.JournalState.{JournalState}
use Rattle.ele_journaled.proofs.Kept.{sound_back}
use Rattle.ele_journaled.proofs.journal.Journal.take_back.Goals as goal

pub invariant_of-self : goal.invariant_of-self
invariant_of-self c =
    rw c.drop_last.ensures (sound_back c.self.inside.change.items c.self.inside.offer c.self.invariant
    (subst (λ (j : JournalState). IfSome j.offer (λ offer. offer.count < length j.change)) (sym c.self.view_is) c.requires))
