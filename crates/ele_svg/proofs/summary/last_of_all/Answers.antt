use Rattle.std.proofs.Common.{arith, sym, ◌∙◌}
use Rattle.ele_svg.specs.Summary.{last_of_plan}
use Rattle.ele_forecast_text.proofs.Folds.{fold_end, fold_more}
use Rattle.ele_svg.proofs.summary.last_of_all.Goals as goal

pub loop-plan-preserved : goal.loop-plan-preserved
loop-plan-preserved c =
    rw (c.last_drawn-last.ensures, c.as_slice.ensures.value, c.as_slice-in-loop-plan.ensures.value) (sym (fold_more last_of_plan c.loop-plan.last c.args.plans.now c.loop-plan.plan-index c.plan-item.result (omega arith) c.plan-item.is) ∙ c.loop-plan.invariant)

pub returns : goal.returns
returns c = sym (fold_end last_of_plan c.loop-plan.last c.args.plans.now c.loop-plan.plan-index c.loop-plan-test.false) ∙ c.loop-plan.invariant
