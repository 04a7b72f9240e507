use Rattle.std.proofs.Common.{◌+◌, ◌*◌, arith}
use Rattle.std.proofs.Math.Nat.{div-le_self}
use Rattle.std.specs.Prelude.{min}
use Rattle.ele_svg_marks.proofs.page.pixels.Goals as goal

pub returns-clause-small : goal.returns-clause-small
returns-clause-small c = omega (arith, div-le_self (min c.args.behind c.args.span * 746) (c.args.span + 1))
