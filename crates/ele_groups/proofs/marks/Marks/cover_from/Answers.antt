use Rattle.ele_groups.proofs.Basics.{arith}
use Rattle.ele_groups.proofs.Times.{between_more}
use Rattle.ele_groups.proofs.marks.Marks.cover_from.Goals as goal

pub loop-mark-preserved : goal.loop-mark-preserved
loop-mark-preserved c =
    let more = between_more c.args.self.now c.in-Some.ensures.apart c.args.from c.loop-mark.next c.in-Some.mark c.loop-mark.invariant.1 c.in-Some.ensures.some in
    let late = c.in-Some.ensures.some.late in (
      grind (arith, more, c.longer-cover.ensures, c.loop-mark.invariant.0, c.in-Some-until.is, c.seconds-at.ensures.value),
      grind (arith, late, c.loop-mark.invariant.1, c.seconds-at.ensures.value),
    )
