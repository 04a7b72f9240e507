use Rattle.std.proofs.Common.{refl}
use Rattle.ele_forecast_forms.proofs.Steps.{zip_more}
use Rattle.ele_space.specs.Removals.{IsDueThen}
use Rattle.ele_space.proofs.removals.due_of.Goals as goal

pub loop-staying-preserved : goal.loop-staying-preserved
loop-staying-preserved c =
    rw c.in_ok-push.ensures.items (zip_more (IsDueThen c.args.forecasts.now) c.args.stayings.now c.loop-staying.staying-index c.staying-item.result c.loop-staying.due.items _ c.loop-staying-test.true c.staying-item.is c.loop-staying.invariant
    (record { at = refl; numbers = c.in_ok-numbers.ensures }))
