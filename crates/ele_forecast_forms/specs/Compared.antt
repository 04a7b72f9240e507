-- Several policies side by side: a line for each version, and one for each moment and policy.
use Rattle.std.specs.Prelude.{ℕ, ◌-◌, List, [], ◌∷◌, ◌++◌, Option, Some, None, codes, decimal, slice_get}
use Rattle.std.specs.List.{flat_map, range_with_len}
use Rattle.ele_forecast.specs.declared.forecast.Forecast.{Forecast}
use Rattle.ele_forecast_text.specs.Details.{detail_headings, detail_words}
use Rattle.ele_forecast_text.specs.Plan.{versions_of}
use Rattle.ele_forecast_text.specs.Stamp.{stamp_of, stamp_or}
use Rattle.ele_forecast_text.specs.Table.{kept_text}
use Rattle.ele_forecast_text.specs.Why.{spaced}
use Rattle.ele_forecast_text.specs.declared.details.Details.{Details}
use Rattle.ele_forecast_text.specs.declared.plan.Plan.{Plan}
use Rattle.ele_forecast_text.specs.declared.staying.Staying.{Staying}

-- a space (32), and the word of the policy
abbrev pub policy_column : Plan → List ℕ
policy_column plan = 32 ∷ plan.word.items

-- the headings of a version's number and its details, and of the policies
abbrev pub compared_heading : Details → List Plan → List ℕ
compared_heading details plans =
    codes "version" ++ (spaced (detail_headings details) ++ (codes " closed ended" ++ (flat_map policy_column plans ++ codes "\n")))

-- the moment of the forecast from which its version may be forgotten, `-` for none
abbrev pub ripe_word : Option Forecast → List ℕ
ripe_word None = codes "-"
ripe_word (Some told) = stamp_or told.ripe

-- that of the version of that number; version 1 has the first forecast
abbrev pub due_word : List Forecast → ℕ → List ℕ
due_word forecasts number = ripe_word (slice_get forecasts (number - 1))

-- a space, and that moment under the policy
abbrev pub due_column : ℕ → Plan → List ℕ
due_column number plan = 32 ∷ due_word plan.forecasts.items number

-- the number of a version, its details, and when it closed and ended
abbrev pub version_columns : Details → Forecast → List ℕ
version_columns details told =
    decimal told.number ++ (spaced (detail_words details told.number) ++ ((32 ∷ stamp_of told.closed) ++ (32 ∷ stamp_or told.ended)))

-- these, and the moment from which it may be forgotten under each policy
abbrev pub compared_columns : Details → List Plan → Forecast → List ℕ
compared_columns details plans told = version_columns details told ++ flat_map (due_column told.number) plans

-- the line of a version
abbrev pub compared_line : Details → List Plan → Forecast → List ℕ
compared_line details plans told = compared_columns details plans told ++ codes "\n"

-- the line of a moment and a policy
abbrev pub policy_staying : Details → List ℕ → Staying → List ℕ
policy_staying details word staying =
    (codes "at " ++ (stamp_of staying.at ++ (codes " " ++ word))) ++ kept_text details staying.numbers.items

abbrev pub staying_or_none : Details → List ℕ → Option Staying → List ℕ
staying_or_none details word None = []
staying_or_none details word (Some staying) = policy_staying details word staying

-- the line of the moment at that place under the policy of a plan
abbrev pub plan_staying : Details → ℕ → Plan → List ℕ
plan_staying details place plan = staying_or_none details plan.word.items (slice_get plan.stayings.items place)

-- the lines of so many moments, one for each policy
abbrev pub stayings_text : Details → List Plan → ℕ → List ℕ
stayings_text details plans moments = flat_map (λ place. flat_map (plan_staying details place) plans) (range_with_len 0 moments)

abbrev pub compared_text : Details → List Plan → ℕ → List ℕ
compared_text details plans moments =
    compared_heading details plans ++ (flat_map (compared_line details plans) (versions_of plans) ++ stayings_text details plans moments)
