use Rattle.std.proofs.Common.{◌≡◌, ◌≤◌, ◌∙◌, Some, ap, arith, length, refl}
use Rattle.ele_journaled.specs.declared.offer.Offer.{Offer}
use Rattle.ele_journaled.specs.JournalState.{JournalState}
use Rattle.ele_journaled.proofs.Kept.{some_is, sound_written}
use Rattle.ele_journaled.proofs.journal.Journal.confirm.Goals as goal

pub drop_front-requires : goal.drop_front-requires
drop_front-requires c =
    let h = c.self.inside in
    let given : h.offer ≡ Some c.args.offer = ap (λ (j : JournalState). j.offer) c.self.view_is ∙ c.requires in
    let within : c.args.offer.count ≤ length h.change.items = some_is (λ (o : Offer). o.count ≤ length h.change.items) h.offer c.args.offer given c.self.invariant.within in
    omega (arith, within, h.change.ok.0)

pub invariant_of-self : goal.invariant_of-self
invariant_of-self c = rw c.drop_front.ensures (sound_written c.args.offer.count c.self.inside.change.items c.self.inside.offer c.self.invariant)

pub returns : goal.returns
returns c = rw (c.drop_front.ensures, ← c.self.view_is) refl
