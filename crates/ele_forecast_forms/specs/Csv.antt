-- A forecast as CSV: a heading, and a row for each version. A row ends with a line feed (10), and a comma (44) is between two fields.
use Rattle.std.specs.Prelude.{ℕ, ◌==◌, List, [], ◌∷◌, ◌++◌, Option, Some, None, codes, decimal, if◌then◌else◌}
use Rattle.std.specs.List.{flat_map}
use Rattle.ele_policy.specs.declared.policy.Policy.{Policy}
use Rattle.ele_forecast.specs.declared.forecast.Forecast.{Forecast}
use Rattle.ele_forecast_text.specs.Details.{size_of}
use Rattle.ele_forecast_text.specs.Labels.{name_of}
use Rattle.ele_forecast_text.specs.Plan.{versions_of}
use Rattle.ele_forecast_text.specs.Stamp.{stamp_of}
use Rattle.ele_forecast_text.specs.declared.details.Details.{Details}
use Rattle.ele_forecast_text.specs.declared.plan.Plan.{Plan}
use Rattle.ele_forecast_forms.specs.Parts.{forecast_of, part_if, why_text}

-- a byte within quotation marks (34), each of which is doubled
abbrev pub doubled : ℕ → List ℕ
doubled byte = if byte == 34 then 34 ∷ 34 ∷ [] else byte ∷ []

-- a field within quotation marks
abbrev pub quoted : List ℕ → List ℕ
quoted text = 34 ∷ (flat_map doubled text ++ 34 ∷ [])

-- a moment, or an empty field for none
abbrev pub moment_field : Option ℕ → List ℕ
moment_field None = 44 ∷ []
moment_field (Some moment) = 44 ∷ stamp_of moment

-- the headings of a policy's two columns; its word has no quotation mark
abbrev pub policy_headings : List ℕ → List ℕ
policy_headings word = codes ",\"due " ++ (word ++ (codes "\",\"why " ++ (word ++ codes "\"")))

abbrev pub heading_fields : Details → List Plan → List ℕ
heading_fields details plans =
    codes "version" ++ (part_if details.columns.labels (codes ",label") ++ (part_if details.columns.sizes (codes ",bytes")
    ++ (codes ",closed,ended" ++ flat_map (λ plan. policy_headings plan.word.items) plans)))

abbrev pub heading_row : Details → List Plan → List ℕ
heading_row details plans = heading_fields details plans ++ codes "\n"

-- what a policy makes of a version: when it becomes due, and why
abbrev pub fate_fields : Policy → Option Forecast → List ℕ
fate_fields policy None = codes ",,"
fate_fields policy (Some told) = moment_field told.ripe ++ 44 ∷ why_text policy told

-- what each plan says of the version of that number
abbrev pub fates_fields : List Plan → ℕ → List ℕ
fates_fields plans number = flat_map (λ plan. fate_fields plan.policy (forecast_of plan number)) plans

-- the number of a version, its label and its size
abbrev pub version_fields : Details → ℕ → List ℕ
version_fields details number =
    decimal number ++ (part_if details.columns.labels (44 ∷ quoted (name_of details.labels.items number))
    ++ part_if details.columns.sizes (44 ∷ decimal (size_of details.sizes.items number)))

-- these, when it closed and ended, and what each plan says of it
abbrev pub row_fields : Details → List Plan → Forecast → List ℕ
row_fields details plans told =
    version_fields details told.number ++ (moment_field (Some told.closed) ++ (moment_field told.ended ++ fates_fields plans told.number))

abbrev pub version_row : Details → List Plan → Forecast → List ℕ
version_row details plans told = row_fields details plans told ++ codes "\n"

abbrev pub csv_text : Details → List Plan → List ℕ
csv_text details plans = heading_row details plans ++ flat_map (version_row details plans) (versions_of plans)
