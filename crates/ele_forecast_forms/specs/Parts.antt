-- What JSON and CSV say alike.
use Rattle.std.specs.Prelude.{ℕ, ◌-◌, Bool, true, false, List, [], ◌∷◌, Option, slice_get}
use Rattle.std.specs.List.{join_with_byte}
use Rattle.ele_policy.specs.declared.policy.Policy.{Policy}
use Rattle.ele_forecast.specs.declared.forecast.Forecast.{Forecast}
use Rattle.ele_forecast_text.specs.Why.{why_words}
use Rattle.ele_forecast_text.specs.declared.plan.Plan.{Plan}

-- the part, if there is that column
abbrev pub part_if : Bool → List ℕ → List ℕ
part_if false part = []
part_if true part = part

-- what a plan says of the version of that number, the first of which is 1
abbrev pub forecast_of : Plan → ℕ → Option Forecast
forecast_of plan number = slice_get plan.forecasts.items (number - 1)

-- why a version may be forgotten or stays, in words with a space between each two
abbrev pub why_text : Policy → Forecast → List ℕ
why_text policy told = join_with_byte 32 (why_words policy told.why)
