use Rattle.std.proofs.Common.{arith}
use Rattle.ele_svg.specs.Key.{place_after}
use Rattle.ele_svg.specs.Notes.{plan_noted}
use Rattle.ele_svg_marks.proofs.Walk.{walked_end, walked_more}
use Rattle.ele_output.proofs.Known.{put_all, put_more}
use Rattle.ele_svg.proofs.notes.put_notes.Goals as goal

pub loop-plan-preserved : goal.loop-plan-preserved
loop-plan-preserved g c =
    (omega (arith, c.loop-plan.invariant.0), put_more c.loop-plan.invariant.1 (walked_more (plan_noted c.args.page.now) place_after c.loop-plan.place c.args.plans.now c.loop-plan.plan-index c.plan-item.result (omega arith) c.plan-item.is) (rw c.as_slice.ensures.value at c.put_notes_of.ensures))

pub returns : goal.returns
returns g c = put_all c.loop-plan.invariant.1 (walked_end (plan_noted c.args.page.now) place_after c.loop-plan.place c.args.plans.now c.loop-plan.plan-index c.loop-plan-test.false)
