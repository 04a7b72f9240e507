use Rattle.std.proofs.Common.{arith}
use Rattle.ele_svg_marks.specs.Mark.{mark_text}
use Rattle.ele_output.proofs.Lists.{list_done, list_more}
use Rattle.ele_svg_marks.proofs.mark.put_marks.Goals as goal

pub loop-mark-preserved : goal.loop-mark-preserved
loop-mark-preserved g c = list_more mark_text c.args.marks.now c.loop-mark.mark-index c.mark-item.result (omega arith) c.mark-item.is c.loop-mark.invariant c.put_mark.ensures

pub returns : goal.returns
returns g c = list_done mark_text c.args.marks.now c.loop-mark.mark-index c.loop-mark-test.false c.loop-mark.invariant
