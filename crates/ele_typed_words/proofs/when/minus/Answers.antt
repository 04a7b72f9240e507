use Rattle.std.proofs.Common.{ℕ, ◌+◌, ◌≤◌, ◌≡◌, ◌-◌, arith}
use Rattle.ele_moment.specs.Last.{last_moment}
use Rattle.ele_typed_words.proofs.Sums.{sum_only}
use Rattle.ele_typed_words.proofs.when.minus.Goals as goal

pub returns-clause-only : goal.returns-clause-only
returns-clause-only c = λ m h.
    let range = c.lemma_in_range.ensures in
    let same = c.seconds-2.ensures.value in
    sum_only c.new.result (c.seconds-2.result - c.args.seconds) m c.new.ensures.some c.new.ensures.value (omega (arith, h, same)) (omega (arith, h, range))
