use Rattle.ele_groups.proofs.Basics.{nat_tests, arith, sym, ◌∙◌}
use Rattle.ele_groups.proofs.Times.{between_done, between_more}
use Rattle.ele_groups.proofs.marks.Marks.cover_between.Goals as goal

pub returns-then-at-until : goal.returns-then-at-until
returns-then-at-until c =
    let told = c.loop-mark.invariant in
    told.0 ∙ sym (between_done c.args.self.now c.args.from c.loop-mark.next c.args.until told.1 told.2 (λ time late before. c.in-Some.ensures.some.least time late (grind (arith, nat_tests, before, c.seconds-at.ensures.value, c.if-at-until.true))))

pub loop-mark-preserved : goal.loop-mark-preserved
loop-mark-preserved c =
    let more = between_more c.args.self.now c.in-Some.ensures.apart c.args.from c.loop-mark.next c.in-Some.mark c.loop-mark.invariant.1 c.in-Some.ensures.some in
    let late = c.in-Some.ensures.some.late in (
      grind (arith, more, c.longer-cover.ensures, c.loop-mark.invariant.0, c.in-Some-until.is, c.seconds-at.ensures.value),
      grind (arith, late, c.loop-mark.invariant.1, c.seconds-at.ensures.value),
      grind (arith, nat_tests, c.if-at-until.false),
    )

pub returns : goal.returns
returns c =
    let told = c.loop-mark.invariant in
    told.0 ∙ sym (between_done c.args.self.now c.args.from c.loop-mark.next c.args.until told.1 told.2 (λ time late before. c.in_default.ensures.none time late))
