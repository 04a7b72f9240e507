-- How many versions each policy keeps as time goes on: a line for each moment, in equal steps from the first closing on.
use Rattle.std.specs.Prelude.{◌≡◌, ℕ, ◌+◌, ◌-◌, ◌*◌, ◌/◌, nat_lt, Bool, List, [], ◌∷◌, ◌++◌, codes, decimal, length, map}
use Rattle.std.specs.List.{AllByRecursion, AllZip, flat_map, fold, range_with_len}
use Rattle.ele_forecast.specs.Stays.{AreKept}
use Rattle.ele_forecast.specs.declared.forecast.Forecast.{Forecast}
use Rattle.ele_forecast_text.specs.Stamp.{stamp_of}
use Rattle.ele_forecast_text.specs.declared.plan.Plan.{Plan}
use Rattle.ele_forecast_text.specs.Plan.{versions_of}
use Rattle.ele_forecast_text.specs.Reach.{first_of, last_of}
use Rattle.ele_forecast_forms.specs.Compared.{policy_column}
use Rattle.ele_forecast_forms.specs.declared.counts.Counts.{Counts}

-- the last moment at which something changes under one of the policies
abbrev pub last_change : ℕ → List Plan → ℕ
last_change first plans = fold (λ last plan. last_of last plan.forecasts.items) first plans

-- so many steps reach from the first moment to the last
abbrev pub count_between : ℕ → ℕ → ℕ → ℕ
count_between step first last = (last - first) / step + 1

-- how many moments there are
abbrev pub count_of : ℕ → List Forecast → List Plan → ℕ
count_of step [] plans = 0
count_of step (told ∷ forecasts) plans = count_between step told.closed (last_change told.closed plans)

-- so many moments in equal steps from the first closing on
abbrev pub moments_from : ℕ → ℕ → ℕ → List ℕ
moments_from step first count = map (λ k. first + step * k) (range_with_len 0 count)

abbrev pub count_every : ℕ → List Plan → ℕ
count_every step plans = count_of step (versions_of plans) plans

abbrev pub moments_every : ℕ → List Plan → List ℕ
moments_every step plans = moments_from step (first_of (versions_of plans)) (count_every step plans)

-- a table has at most 400 lines of moments
abbrev pub is_too_long : ℕ → List Plan → Bool
is_too_long step plans = nat_lt 400 (count_every step plans)

-- so many versions of the closings stay at the moment under the policy of the plan
pub record IsKeptCount (closings : List ℕ) (at : ℕ) (plan : Plan) (count : ℕ) : Type 0 where
  pub numbers : List ℕ
  pub kept : AreKept plan.policy closings at numbers
  pub count_is : count ≡ length numbers

-- as many as stay at the moment of these counts, one for each plan
abbrev pub AreCounts : List ℕ → List Plan → Counts → Type 0
AreCounts closings plans row = AllZip (IsKeptCount closings row.at) plans row.counts.items

-- one for each of the moments, in their order
pub record AreCountsAt (moments closings : List ℕ) (plans : List Plan) (rows : List Counts) : Type 0 where
  pub at : map (λ row. row.at) rows ≡ moments
  pub kept : AllByRecursion (AreCounts closings plans) rows

abbrev pub AreCountsEvery : ℕ → List ℕ → List Plan → List Counts → Type 0
AreCountsEvery step closings plans rows = AreCountsAt (moments_every step plans) closings plans rows

abbrev pub over_time_heading : List Plan → List ℕ
over_time_heading plans = codes "at" ++ (flat_map policy_column plans ++ codes "\n")

-- the line of a moment: how many versions stay then under each policy
abbrev pub counts_line : Counts → List ℕ
counts_line row = stamp_of row.at ++ (flat_map (λ count. 32 ∷ decimal count) row.counts.items ++ codes "\n")

abbrev pub over_time_text : List Plan → List Counts → List ℕ
over_time_text plans rows = over_time_heading plans ++ flat_map counts_line rows
