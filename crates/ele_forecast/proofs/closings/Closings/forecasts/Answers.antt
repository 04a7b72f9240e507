use Rattle.std.proofs.Common.{arith}
use Rattle.ele_forecast.proofs.Told.{told_one, told_all}
use Rattle.ele_forecast.proofs.closings.Closings.forecasts.Goals as goal

pub loop-place-preserved : goal.loop-place-preserved
loop-place-preserved c =
    let told = c.forecast.ensures in
    rw c.in_ok-add.ensures (told_one c.forecast.result c.loop-place.invariant told.number told.closed told.ended told.tells)

pub returns-clause-ok : goal.returns-clause-ok
returns-clause-ok c = told_all c.loop-place.invariant (omega arith)
