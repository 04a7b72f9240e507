use Rattle.std.proofs.Common.{ℕ, ◌+◌, ◌*◌, ◌/◌, Some, ap, ◌∙◌, sym}
use Rattle.std.proofs.lemmas.Option.{none-some, same_Some}
use Rattle.ele_typed_words.proofs.when.on_day.Goals as goal

pub returns-in_default-clause-only : goal.returns-in_default-clause-only
returns-in_default-clause-only c = λ m h. absurd (none-some h.minutes (c.in_default.ensures.only h.minutes h.shown))

pub returns-clause-only : goal.returns-clause-only
returns-clause-only c = λ m h.
    let same = same_Some _ _ (c.in-Some.ensures.only h.minutes h.shown) in
    c.at_minutes.ensures ∙ ap (λ (n : ℕ). Some (c.args.now / 86400 * 86400 + 60 * n)) same ∙ ap (λ (n : ℕ). Some n) (sym h.moment)
