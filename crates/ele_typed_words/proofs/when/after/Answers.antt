use Rattle.std.proofs.Common.{ℕ, ◌+◌, ap, ◌∙◌, sym}
use Rattle.std.proofs.lemmas.Option.{same_Some}
use Rattle.ele_typed_words.proofs.Sums.{sum_only}
use Rattle.ele_typed_words.proofs.when.after.Goals as goal

pub returns-clause-only : goal.returns-clause-only
returns-clause-only c = λ m h.
    let same = same_Some _ _ (c.in-Some.ensures.only h.seconds h.long) in
    sum_only c.plus.result (c.args.now + c.in-Some.seconds) m c.plus.ensures.some c.plus.ensures.value (h.sum ∙ ap (λ (n : ℕ). c.args.now + n) (sym same)) h.in_range
