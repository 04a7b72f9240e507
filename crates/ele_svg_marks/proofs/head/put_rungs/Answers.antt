use Rattle.std.proofs.Common.{arith}
use Rattle.ele_svg_marks.specs.Head.{rung_text}
use Rattle.ele_output.proofs.Known.{put_more, puts_then}
use Rattle.ele_output.proofs.Lists.{here, list_done}
use Rattle.ele_svg_marks.proofs.head.put_rungs.Goals as goal

pub loop-rung-preserved : goal.loop-rung-preserved
loop-rung-preserved g c = put_more c.loop-rung.invariant (here rung_text c.args.rungs.now c.loop-rung.rung-index _ (omega arith)) (puts_then c.put_length.ensures c.put_length-in-loop-rung.ensures)

pub returns : goal.returns
returns g c = list_done rung_text c.args.rungs.now c.loop-rung.rung-index c.loop-rung-test.false c.loop-rung.invariant
