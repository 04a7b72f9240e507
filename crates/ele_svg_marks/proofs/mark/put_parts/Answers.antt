use Rattle.std.proofs.Common.{List, ℕ, arith}
use Rattle.std.specs.Borrow.{Bor}
use Rattle.ele_output.proofs.Known.{put_more}
use Rattle.ele_output.proofs.Lists.{here, list_done}
use Rattle.ele_svg_marks.proofs.mark.put_parts.Goals as goal

pub loop-part-preserved : goal.loop-part-preserved
loop-part-preserved g c = put_more c.loop-part.invariant (here (λ (part : Bor (List ℕ)). part.now) c.args.parts.now c.loop-part.part-index _ (omega arith)) c.put.ensures

pub returns : goal.returns
returns g c = list_done (λ (part : Bor (List ℕ)). part.now) c.args.parts.now c.loop-part.part-index c.loop-part-test.false c.loop-part.invariant
