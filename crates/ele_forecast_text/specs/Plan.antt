-- The fates of a file's versions under policies.
use Rattle.std.specs.Prelude.{◌≡◌, ℕ, List, [], ◌∷◌}
use Rattle.std.specs.List.{AllZip}
use Rattle.ele_forecast.specs.ForecastOf.{AreForecasts}
use Rattle.ele_forecast.specs.declared.forecast.Forecast.{Forecast}
use Rattle.ele_forecast_text.specs.Table.{AreStayings}
use Rattle.ele_forecast_text.specs.declared.plan.AskedPolicy.{AskedPolicy}
use Rattle.ele_forecast_text.specs.declared.plan.Plan.{Plan}

-- the plan, under the policy, of versions that closed at these closings, and of those that stay at these moments
pub record IsPlanOf (asked : AskedPolicy) (closings moments : List ℕ) (plan : Plan) : Type 0 where
  pub word_is : plan.word.items ≡ asked.word.items
  pub policy_is : plan.policy ≡ asked.policy
  pub told : AreForecasts asked.policy closings plan.forecasts.items
  pub stay : AreStayings asked.policy closings moments plan.stayings.items

-- a plan for each of the policies, in their order
abbrev pub ArePlans : List AskedPolicy → List ℕ → List ℕ → List Plan → Type 0
ArePlans policies closings moments plans = AllZip (λ asked plan. IsPlanOf asked closings moments plan) policies plans

-- the versions, as the first of the plans has them; all plans are of the same versions
abbrev pub versions_of : List Plan → List Forecast
versions_of [] = []
versions_of (plan ∷ plans) = plan.forecasts.items
