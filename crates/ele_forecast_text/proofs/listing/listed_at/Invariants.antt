use Rattle.std.specs.Prelude.{◌≡◌, take}
use Rattle.ele_forecast_text.specs.Labels.{listed_at}
use Rattle.ele_forecast_text.proofs.listing.listed_at.Given as goal

-- the listed versions among those so far
abbrev pub invariant-loop-forecast : goal.invariant-loop-forecast
invariant-loop-forecast l = l.numbers.items ≡ listed_at l.kept (take l.forecast-index l.forecasts) l.staying
