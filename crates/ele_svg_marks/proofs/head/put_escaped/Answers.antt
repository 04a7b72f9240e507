use Rattle.ele_svg_marks.specs.Escaped.{begun_after, escaped_at}
use Rattle.ele_svg_marks.proofs.Walk.{walked_end, walked_here}
use Rattle.ele_output.proofs.Known.{put_all, put_more}
use Rattle.ele_svg_marks.proofs.head.put_escaped.Goals as goal

pub loop-byte-preserved : goal.loop-byte-preserved
loop-byte-preserved g c =
    rw c.begun_after-begun.ensures (put_more c.loop-byte.invariant (walked_here escaped_at begun_after c.loop-byte.begun c.args.title.now c.loop-byte.byte-index _ c.loop-byte-test.true) c.put_escaped_at.ensures)

pub returns : goal.returns
returns g c = put_all c.loop-byte.invariant (walked_end escaped_at begun_after c.loop-byte.begun c.args.title.now c.loop-byte.byte-index c.loop-byte-test.false)
