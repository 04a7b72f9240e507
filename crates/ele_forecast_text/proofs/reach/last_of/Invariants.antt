use Rattle.std.proofs.Common.{◌≡◌, drop}
use Rattle.ele_forecast_text.specs.Reach.{last_of}
use Rattle.ele_forecast_text.proofs.reach.last_of.Given as goal

-- the others are left
abbrev pub invariant-loop-forecast : goal.invariant-loop-forecast
invariant-loop-forecast l = last_of l.last (drop l.forecast-index l.forecasts) ≡ last_of l.fn.first l.forecasts
