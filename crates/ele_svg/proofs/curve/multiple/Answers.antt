use Rattle.std.proofs.Common.{arith}
use Rattle.std.proofs.Math.Nat.{le-div_iff_mul-le}
use Rattle.ele_svg.proofs.curve.multiple.Goals as goal

pub overflow_mul-result : goal.overflow_mul-result
overflow_mul-result c = omega (arith, (le-div_iff_mul-le c.requires.apart).0 c.requires.within)
