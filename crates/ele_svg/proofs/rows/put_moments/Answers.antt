use Rattle.std.proofs.Common.{arith}
use Rattle.ele_svg.specs.Rows.{moment_drawn}
use Rattle.ele_output.proofs.Lists.{list_done, list_more}
use Rattle.ele_svg.proofs.rows.put_moments.Goals as goal

pub loop-staying-preserved : goal.loop-staying-preserved
loop-staying-preserved g c = list_more (moment_drawn c.args.page.now) c.args.stayings.now c.loop-staying.staying-index c.staying-item.result (omega arith) c.staying-item.is c.loop-staying.invariant (rw c.x-x.ensures.value at c.put_marks.ensures)

pub returns : goal.returns
returns g c = list_done (moment_drawn c.args.page.now) c.args.stayings.now c.loop-staying.staying-index c.loop-staying-test.false c.loop-staying.invariant
