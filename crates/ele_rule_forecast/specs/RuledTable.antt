-- Policies and rules side by side: a line for each version, and one for each moment and policy or rule.
use Rattle.std.specs.Prelude.{ℕ, List, ◌∷◌, ◌++◌, Option, Some, None, codes}
use Rattle.std.specs.List.{flat_map}
use Rattle.ele_forecast.specs.declared.forecast.Forecast.{Forecast}
use Rattle.ele_forecast_text.specs.Details.{detail_headings}
use Rattle.ele_forecast_text.specs.Plan.{versions_of}
use Rattle.ele_forecast_text.specs.Stamp.{stamp_of}
use Rattle.ele_forecast_text.specs.Table.{kept_text}
use Rattle.ele_forecast_text.specs.Why.{spaced}
use Rattle.ele_forecast_text.specs.declared.details.Details.{Details}
use Rattle.ele_forecast_text.specs.declared.plan.Plan.{Plan}
use Rattle.ele_forecast_forms.specs.Compared.{compared_columns, policy_column, stayings_text}
use Rattle.ele_rule_parts.specs.declared.reason.Reason.{Reason}
use Rattle.ele_rule_forecast.specs.Judged.{reason_in}
use Rattle.ele_rule_forecast.specs.ReasonText.{reason_text}
use Rattle.ele_rule_forecast.specs.declared.judged.Judged.{Judged}
use Rattle.ele_rule_forecast.specs.declared.judged.Verdict.{Verdict}

-- a space (32), and the word of the rule
abbrev pub rule_column : Judged → List ℕ
rule_column judged = 32 ∷ judged.word.items

-- the headings of a version's number and its details, of the policies and of the rules
abbrev pub ruled_heading : Details → List Plan → List Judged → List ℕ
ruled_heading details plans rules =
    (codes "version" ++ (spaced (detail_headings details) ++ (codes " closed ended" ++ flat_map policy_column plans))) ++ (flat_map rule_column rules ++ codes "\n")

-- what keeps a version, as one word with `#` (35), `-` for nothing
abbrev pub reason_word : Option Reason → List ℕ
reason_word None = codes "-"
reason_word (Some reason) = reason_text 35 reason

-- a space, and what keeps the version of that number at the first of the moments
abbrev pub kept_column : ℕ → Judged → List ℕ
kept_column number judged = 32 ∷ reason_word (reason_in judged number)

-- the line of a version
abbrev pub ruled_line : Details → List Plan → List Judged → Forecast → List ℕ
ruled_line details plans rules told =
    compared_columns details plans told ++ (flat_map (kept_column told.number) rules ++ codes "\n")

-- the line of a rule and a moment: which versions the rule keeps then
abbrev pub verdict_line : Details → List ℕ → Verdict → List ℕ
verdict_line details word verdict =
    (codes "at " ++ (stamp_of verdict.staying.at ++ 32 ∷ word)) ++ kept_text details verdict.staying.numbers.items

abbrev pub verdict_lines : Details → Judged → List ℕ
verdict_lines details judged = flat_map (verdict_line details judged.word.items) judged.verdicts.items

abbrev pub ruled_text : Details → List Plan → ℕ → List Judged → List ℕ
ruled_text details plans moments rules =
    ruled_heading details plans rules ++ (flat_map (ruled_line details plans rules) (versions_of plans)
    ++ (stayings_text details plans moments ++ flat_map (verdict_lines details) rules))
