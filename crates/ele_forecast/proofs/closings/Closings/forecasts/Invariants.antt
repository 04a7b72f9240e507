use Rattle.ele_forecast.proofs.Told.{ToldSoFar}
use Rattle.ele_forecast.proofs.closings.Closings.forecasts.Given as goal

abbrev pub invariant-loop-place : goal.invariant-loop-place
invariant-loop-place l = ToldSoFar l.policy l.self l.place l.forecasts.items
