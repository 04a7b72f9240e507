-- A forecast with rules as CSV. A row ends with a line feed (10), and a comma (44) is between two fields.
use Rattle.std.specs.Prelude.{ℕ, List, [], ◌∷◌, ◌++◌, Option, Some, None, codes}
use Rattle.std.specs.List.{flat_map}
use Rattle.ele_forecast.specs.declared.forecast.Forecast.{Forecast}
use Rattle.ele_forecast_text.specs.Plan.{versions_of}
use Rattle.ele_forecast_text.specs.declared.details.Details.{Details}
use Rattle.ele_forecast_text.specs.declared.plan.Plan.{Plan}
use Rattle.ele_forecast_forms.specs.Csv.{heading_fields, row_fields}
use Rattle.ele_rule_parts.specs.declared.reason.Reason.{Reason}
use Rattle.ele_rule_forecast.specs.Judged.{reason_in}
use Rattle.ele_rule_forecast.specs.ReasonText.{reason_text}
use Rattle.ele_rule_forecast.specs.declared.judged.Judged.{Judged}

-- the heading of a rule's column
abbrev pub rule_heading : List ℕ → List ℕ
rule_heading word = codes ",\"kept " ++ (word ++ codes "\"")

abbrev pub rule_headings : List Judged → List ℕ
rule_headings rules = flat_map (λ judged. rule_heading judged.word.items) rules ++ codes "\n"

-- what keeps a version, with a space (32) before the number, or an empty field for nothing
abbrev pub reason_field : Option Reason → List ℕ
reason_field None = 44 ∷ []
reason_field (Some reason) = 44 ∷ reason_text 32 reason

abbrev pub kept_field : ℕ → Judged → List ℕ
kept_field number judged = reason_field (reason_in judged number)

abbrev pub kept_fields : List Judged → ℕ → List ℕ
kept_fields rules number = flat_map (kept_field number) rules ++ codes "\n"

abbrev pub ruled_row : Details → List Plan → List Judged → Forecast → List ℕ
ruled_row details plans rules told = row_fields details plans told ++ kept_fields rules told.number

abbrev pub ruled_csv : Details → List Plan → List Judged → List ℕ
ruled_csv details plans rules =
    (heading_fields details plans ++ rule_headings rules) ++ flat_map (ruled_row details plans rules) (versions_of plans)
