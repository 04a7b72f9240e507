use Rattle.std.proofs.Common.{ℕ, ◌+◌, ◌*◌, ◌/◌, refl, arith}
use Rattle.ele_typed_words.proofs.Sums.{sum_only}
use Rattle.ele_typed_words.proofs.when.at_minutes.Goals as goal

pub returns : goal.returns
returns c =
    let some = rw c.seconds.ensures.value at c.new.ensures.some in
    let value = rw c.seconds.ensures.value at c.new.ensures.value in
    sum_only c.new.result (c.args.moment / 86400 * 86400 + 60 * c.args.minutes) _ some value refl (omega (arith, c.requires, c.lemma_in_range.ensures))
