-- A forecast as JSON: one object.
use Rattle.std.specs.Prelude.{ℕ, ◌+◌, ◌/◌, ◌%◌, ◌==◌, ◌||◌, nat_lt, List, [], ◌∷◌, ◌++◌, Option, Some, None, codes, decimal, length, map, if◌then◌else◌}
use Rattle.std.specs.List.{flat_map, join_with_byte}
use Rattle.ele_policy.specs.declared.policy.Policy.{Policy}
use Rattle.ele_forecast.specs.declared.forecast.Forecast.{Forecast}
use Rattle.ele_forecast_text.specs.Details.{bytes_of, size_of}
use Rattle.ele_forecast_text.specs.Labels.{name_of}
use Rattle.ele_forecast_text.specs.Plan.{versions_of}
use Rattle.ele_forecast_text.specs.Stamp.{stamp_of}
use Rattle.ele_forecast_text.specs.declared.details.Details.{Details}
use Rattle.ele_forecast_text.specs.declared.plan.Plan.{Plan}
use Rattle.ele_forecast_text.specs.declared.staying.Staying.{Staying}
use Rattle.ele_forecast_forms.specs.Parts.{forecast_of, part_if, why_text}

-- a digit of base 16, below 16
abbrev pub digit_of : ℕ → ℕ
digit_of n = if nat_lt n 10 then 48 + n else 87 + n

-- a byte within a string: a control character has its number, and a quotation mark (34) and a backslash (92) have a backslash before them
abbrev pub escaped : ℕ → List ℕ
escaped byte =
    if nat_lt byte 32 then codes "\\u00" ++ digit_of (byte / 16) ∷ digit_of (byte % 16) ∷ [] else (if byte == 34 || byte == 92 then 92 ∷ byte ∷ [] else byte ∷ [])

abbrev pub string_text : List ℕ → List ℕ
string_text text = 34 ∷ (flat_map escaped text ++ 34 ∷ [])

-- a moment: its seconds, and its date and time of day
abbrev pub moment_text : ℕ → List ℕ
moment_text moment = codes "{\"seconds\":" ++ (decimal moment ++ (codes ",\"text\":\"" ++ (stamp_of moment ++ codes "\"}")))

abbrev pub moment_or_null : Option ℕ → List ℕ
moment_or_null None = codes "null"
moment_or_null (Some moment) = moment_text moment

-- the word of a policy, as the first field of an object; it has no character that a string would escape
abbrev pub policy_field : List ℕ → List ℕ
policy_field word = codes "{\"policy\":\"" ++ (word ++ codes "\"")

-- the bytes of the versions of these numbers together, if versions have sizes
abbrev pub total_field : Details → List ℕ → List ℕ
total_field details numbers = part_if details.columns.sizes (codes ",\"bytes\":" ++ decimal (bytes_of details.sizes.items numbers))

-- the versions that stay at a moment: how many, their bytes and their numbers
abbrev pub staying_text : Details → Staying → List ℕ
staying_text details staying =
    let numbers = staying.numbers.items in
    codes "{\"moment\":" ++ (moment_text staying.at ++ ((codes ",\"count\":" ++ decimal (length numbers)) ++ (total_field details numbers
    ++ (codes ",\"numbers\":[" ++ (join_with_byte 44 (map decimal numbers) ++ codes "]}")))))

-- a plan: its policy, and the versions that stay at each of the moments
abbrev pub plan_text : Details → Plan → List ℕ
plan_text details plan =
    10 ∷ (policy_field plan.word.items ++ (codes ",\"at\":[" ++ (join_with_byte 44 (map (staying_text details) plan.stayings.items) ++ codes "]}")))

-- when a version becomes due, and why, as the last fields of an object
abbrev pub end_text : Policy → Option Forecast → List ℕ
end_text policy None = codes "}"
end_text policy (Some told) =
    codes ",\"due\":" ++ (moment_or_null told.ripe ++ (codes ",\"why\":\"" ++ (why_text policy told ++ codes "\"}")))

-- what the policy of a plan makes of a version
abbrev pub fate_text : Plan → Option Forecast → List ℕ
fate_text plan told = policy_field plan.word.items ++ end_text plan.policy told

-- what each plan says of the version of that number
abbrev pub fates_text : List Plan → ℕ → List ℕ
fates_text plans number = join_with_byte 44 (map (λ plan. fate_text plan (forecast_of plan number)) plans)

-- the label and the size of a version, if versions have them
abbrev pub label_field : Details → ℕ → List ℕ
label_field details number = part_if details.columns.labels (codes ",\"label\":" ++ string_text (name_of details.labels.items number))

abbrev pub size_field : Details → ℕ → List ℕ
size_field details number = part_if details.columns.sizes (codes ",\"bytes\":" ++ decimal (size_of details.sizes.items number))

-- the number of a version, its label and its size
abbrev pub version_fields : Details → ℕ → List ℕ
version_fields details number = (codes "\n{\"number\":" ++ decimal number) ++ (label_field details number ++ size_field details number)

-- when it closed and when it ended
abbrev pub life_fields : Forecast → List ℕ
life_fields told = codes ",\"closed\":" ++ (moment_text told.closed ++ (codes ",\"ended\":" ++ moment_or_null told.ended))

abbrev pub version_text : Details → List Plan → Forecast → List ℕ
version_text details plans told =
    version_fields details told.number ++ (life_fields told ++ (codes ",\"policies\":[" ++ (fates_text plans told.number ++ codes "]}")))

-- the plans and the versions, and the end of the object
abbrev pub members_text : Details → List Plan → List ℕ
members_text details plans =
    codes "\"policies\":[" ++ (join_with_byte 44 (map (plan_text details) plans) ++ (codes "\n],\n\"versions\":["
    ++ (join_with_byte 44 (map (version_text details plans) (versions_of plans)) ++ codes "\n]}\n")))

abbrev pub json_text : Details → List Plan → List ℕ
json_text details plans = codes "{" ++ members_text details plans
