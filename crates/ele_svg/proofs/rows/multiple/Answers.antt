use Rattle.std.proofs.Common.{arith}
use Rattle.std.proofs.Math.Nat.{le-div_iff_mul-le}
use Rattle.std.proofs.lemmas.Bool.{false≢true}
use Rattle.ele_svg.proofs.rows.multiple.Goals as goal

pub overflow_mul-k : goal.overflow_mul-k
overflow_mul-k c = omega (arith, (le-div_iff_mul-le c.requires.some).0 c.requires.within, c.lemma_in_range.ensures)

pub returns-in-None : goal.returns-in-None
returns-in-None c = absurd (false≢true (c.in-None.ensures.some.1 (omega (arith, (le-div_iff_mul-le c.requires.some).0 c.requires.within, c.lemma_in_range.ensures))))
