use Rattle.std.proofs.Common.{ℕ, arith, sym, ◌∙◌}
use Rattle.ele_forecast_text.specs.declared.plan.Plan.{Plan}
use Rattle.ele_forecast_text.specs.Reach.{last_of}
use Rattle.ele_forecast_text.proofs.Folds.{fold_end, fold_more}
use Rattle.ele_forecast_forms.proofs.counts.last_change.Goals as goal

pub loop-plan-preserved : goal.loop-plan-preserved
loop-plan-preserved c =
    rw (c.last_of-last.ensures, c.as_slice.ensures.value) (sym (fold_more (λ (last : ℕ) (plan : Plan). last_of last plan.forecasts.items) c.loop-plan.last c.args.plans.now c.loop-plan.plan-index c.plan-item.result (omega arith) c.plan-item.is) ∙ c.loop-plan.invariant)

pub returns : goal.returns
returns c = sym (fold_end (λ (last : ℕ) (plan : Plan). last_of last plan.forecasts.items) c.loop-plan.last c.args.plans.now c.loop-plan.plan-index c.loop-plan-test.false) ∙ c.loop-plan.invariant
