use Rattle.std.proofs.Common.{arith}
use Rattle.std.proofs.lemmas.Option.{same_Some}
use Rattle.ele_invocation.proofs.Spelled.{if_none}
use Rattle.ele_invocation.proofs.storm.plan_in.Goals as goal

pub returns-clause-none : goal.returns-clause-none
returns-clause-none c =
    if_none c.new.result _ (λ none plan asks.
    let w = same_Some _ _ (c.in-Some.ensures.only plan.writers (omega (arith, plan.writers_fit.1)) asks.writers) in
    let h = same_Some _ _ (c.in-Some-count_in.ensures.only plan.historians (omega (arith, plan.historians_fit.1)) asks.historians) in
    let r = same_Some _ _ (c.in-Some-count_in-2.ensures.only plan.rounds (omega (arith, plan.rounds_fit.1)) asks.rounds) in
    none (c.new.ensures.fits.1 (
      omega (arith, plan.writers_fit.0, w),
      omega (arith, plan.writers_fit.1, w),
      omega (arith, plan.historians_fit.0, h),
      omega (arith, plan.historians_fit.1, h),
      omega (arith, plan.rounds_fit.0, r),
      omega (arith, plan.rounds_fit.1, r),
    )))
