use Rattle.std.proofs.Common.{arith}
use Rattle.ele_time_path.proofs.listed.TaggedPath.read.Goals as goal

pub returns-in_err-tagged-clause-only : goal.returns-in_err-tagged-clause-only
returns-in_err-tagged-clause-only c = λ value spells. grind (arith, c.in_err-tagged.ensures.only value spells, c.from_residual.ensures)

pub returns-clause-only : goal.returns-clause-only
returns-clause-only c = λ value spells. grind (arith, c.in_ok-tagged.ensures.only value spells, c.in_ok-path-2.ensures, c.in_ok-path.ensures.cases, c.path.ensures, c.tag.ensures)
