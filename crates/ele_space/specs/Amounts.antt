-- What stays under each policy as time goes on, and what the removals free.
use Rattle.std.specs.Prelude.{◌≡◌, ℕ, false, List, length, map}
use Rattle.std.specs.List.{AllByRecursion, AllZip}
use Rattle.ele_forecast.specs.Stays.{AreKept}
use Rattle.ele_forecast_text.specs.Details.{bytes_of}
use Rattle.ele_forecast_text.specs.Labels.{listed_at}
use Rattle.ele_forecast_text.specs.declared.plan.Plan.{Plan}
use Rattle.ele_forecast_text.specs.declared.staying.Staying.{Staying}
use Rattle.ele_space.specs.declared.amounts.Amount.{Amount}
use Rattle.ele_space.specs.declared.amounts.Amounts.{Amounts}

-- the versions of `staying` are those of the closings that stay at the moment under the policy of the plan: so many, with so many bytes; the
-- versions that are due then have the bytes that are freed
pub record IsAmount (closings sizes : List ℕ) (at : ℕ) (plan : Plan) (amount : Amount) : Type 0 where
  pub staying : Staying
  pub at_is : staying.at ≡ at
  pub kept : AreKept plan.policy closings at staying.numbers.items
  pub count_is : amount.count ≡ length staying.numbers.items
  pub bytes_are : amount.bytes ≡ bytes_of sizes staying.numbers.items
  pub freed_are : amount.freed ≡ bytes_of sizes (listed_at false plan.forecasts.items staying)

-- those at the moment of these amounts, one for each plan
abbrev pub AreAmounts : List ℕ → List ℕ → List Plan → Amounts → Type 0
AreAmounts closings sizes plans row = AllZip (IsAmount closings sizes row.at) plans row.amounts.items

-- one for each of the moments, in their order
pub record AreAmountsAt (moments closings sizes : List ℕ) (plans : List Plan) (rows : List Amounts) : Type 0 where
  pub at : map (λ row. row.at) rows ≡ moments
  pub kept : AllByRecursion (AreAmounts closings sizes plans) rows
