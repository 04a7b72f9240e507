-- The rules of a forecast as JSON: a member of its object. A rule's word has no character that a string would escape.
use Rattle.std.specs.Prelude.{ℕ, List, ◌++◌, Option, Some, None, codes, map}
use Rattle.std.specs.List.{join_with_byte}
use Rattle.ele_forecast.specs.declared.forecast.Forecast.{Forecast}
use Rattle.ele_forecast_text.specs.Plan.{versions_of}
use Rattle.ele_forecast_text.specs.declared.details.Details.{Details}
use Rattle.ele_forecast_text.specs.declared.plan.Plan.{Plan}
use Rattle.ele_forecast_forms.specs.Json.{staying_text}
use Rattle.ele_rule_parts.specs.declared.reason.Reason.{Reason}
use Rattle.ele_rule_forecast.specs.Judged.{reason_in}
use Rattle.ele_rule_forecast.specs.ReasonText.{reason_text}
use Rattle.ele_rule_forecast.specs.declared.judged.Judged.{Judged}
use Rattle.ele_rule_forecast.specs.declared.judged.Verdict.{Verdict}

abbrev pub quoted_reason : Reason → List ℕ
quoted_reason reason = codes "\"" ++ (reason_text 32 reason ++ codes "\"")

-- what keeps a version, or `null` for nothing
abbrev pub reason_or_null : Option Reason → List ℕ
reason_or_null None = codes "null"
reason_or_null (Some reason) = quoted_reason reason

-- what keeps each version at the first of the moments
abbrev pub why_texts : List Forecast → Judged → List ℕ
why_texts versions judged = join_with_byte 44 (map (λ told. reason_or_null (reason_in judged told.number)) versions)

-- the versions that the rule keeps at a moment
abbrev pub verdict_text : Details → Verdict → List ℕ
verdict_text details verdict = staying_text details verdict.staying

-- a rule: its word, the versions that it keeps at each of the moments, and what keeps each version at the first of them
abbrev pub rule_text : Details → List Forecast → Judged → List ℕ
rule_text details versions judged =
    codes "\n{\"rule\":\"" ++ (judged.word.items ++ (codes "\",\"at\":[" ++ (join_with_byte 44 (map (verdict_text details) judged.verdicts.items)
    ++ (codes "],\"why\":[" ++ (why_texts versions judged ++ codes "]}")))))

-- the rules, as a member of an object that others follow
abbrev pub rules_member : Details → List Plan → List Judged → List ℕ
rules_member details plans rules =
    codes "\"rules\":[" ++ (join_with_byte 44 (map (rule_text details (versions_of plans)) rules) ++ codes "\n],\n")
