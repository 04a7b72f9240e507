-- A forecast as a table: a line for each version, and one for each given moment.
use Rattle.std.specs.Prelude.{◌≡◌, ℕ, List, [], ◌∷◌, ◌++◌, codes, decimal, length, map}
use Rattle.std.specs.List.{AllByRecursion, flat_map}
use Rattle.ele_policy.specs.declared.policy.Policy.{Policy}
use Rattle.ele_output.specs.Line.{line_text}
use Rattle.ele_forecast.specs.Stays.{AreKept}
use Rattle.ele_forecast.specs.declared.forecast.Forecast.{Forecast}
use Rattle.ele_forecast_text.specs.Details.{detail_headings, detail_words, total_words}
use Rattle.ele_forecast_text.specs.Stamp.{stamp_of, stamp_or}
use Rattle.ele_forecast_text.specs.Why.{spaced, why_words}
use Rattle.ele_forecast_text.specs.declared.details.Details.{Details}
use Rattle.ele_forecast_text.specs.declared.plan.Plan.{Plan}
use Rattle.ele_forecast_text.specs.declared.staying.Staying.{Staying}

-- the headings of the columns
abbrev pub heading : Details → List ℕ
heading details = codes "version" ++ (spaced (detail_headings details) ++ codes " closed ended due why\n")

-- the words of a version: when it closed, ended and becomes due, and why
abbrev pub told_words : Policy → Forecast → List (List ℕ)
told_words policy told =
    stamp_of told.closed ∷ stamp_or told.ended ∷ stamp_or told.ripe ∷ why_words policy told.why

-- the line of a version: its number, its moments and the reason
abbrev pub table_line : Policy → Forecast → List ℕ
table_line policy told = line_text (decimal told.number ∷ told_words policy told)

-- the same, with the version's label and its size after its number
abbrev pub detailed_line : Policy → Details → Forecast → List ℕ
detailed_line policy details told = line_text (decimal told.number ∷ (detail_words details told.number ++ told_words policy told))

-- how many versions stay, their bytes if versions have sizes, and their numbers
abbrev pub kept_text : Details → List ℕ → List ℕ
kept_text details numbers =
    (codes " stay " ++ decimal (length numbers))
    ++ (spaced (total_words details numbers) ++ (codes ":" ++ (flat_map (λ number. 32 ∷ decimal number) numbers ++ codes "\n")))

-- the line of a moment, with the versions that stay then
abbrev pub staying_line : Details → Staying → List ℕ
staying_line details staying = codes "at " ++ (stamp_of staying.at ++ kept_text details staying.numbers.items)

-- the table of a plan
abbrev pub table_text : Details → Plan → List ℕ
table_text details plan =
    heading details ++ (flat_map (detailed_line plan.policy details) plan.forecasts.items ++ flat_map (staying_line details) plan.stayings.items)

-- the versions that stay, for each of the moments in their order
pub record AreStayings (policy : Policy) (closings moments : List ℕ) (stayings : List Staying) : Type 0 where
  pub at : map (λ staying. staying.at) stayings ≡ moments
  pub kept : AllByRecursion (λ staying. AreKept policy closings staying.at staying.numbers.items) stayings
