use Rattle.std.proofs.Common.{ℕ, ◌+◌, ap, ◌∙◌, sym}
use Rattle.std.proofs.lemmas.Option.{same_Some}
use Rattle.ele_typed_words.proofs.when.before.Goals as goal

pub returns-clause-only : goal.returns-clause-only
returns-clause-only c = λ m h.
    let same = same_Some _ _ (c.in-Some.ensures.only h.seconds h.long) in
    c.minus.ensures.only m (ap (λ (n : ℕ). m + n) same ∙ h.sum)
