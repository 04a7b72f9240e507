-- A suggestion as JSON: one object, of the best policy and of all.
use Rattle.std.specs.Prelude.{ℕ, Bool, true, false, List, ◌++◌, Option, Some, None, codes, decimal, length, map}
use Rattle.std.specs.List.{join_with_byte}
use Rattle.ele_policy.specs.PolicyText.{policy_word}
use Rattle.ele_forecast_forms.specs.Parts.{part_if}
use Rattle.ele_suggest.specs.Suggested.{best_weighed}
use Rattle.ele_suggest.specs.declared.suggestion.Suggestion.{Suggestion}
use Rattle.ele_suggest.specs.declared.weighed.Weighed.{Weighed}

abbrev pub bool_word : Bool → List ℕ
bool_word false = codes "false"
bool_word true = codes "true"

-- the word of a policy; it has no character that a string would escape
abbrev pub best_json : Option Weighed → List ℕ
best_json None = codes "null"
best_json (Some one) = codes "\"" ++ (policy_word one.policy ++ codes "\"")

-- a policy: how many versions stay, their bytes if versions have sizes, and whether they are what is asked
abbrev pub weighed_json : Bool → Weighed → List ℕ
weighed_json sizes one =
    codes "\n{\"policy\":\"" ++ (policy_word one.policy ++ ((codes "\",\"count\":" ++ decimal (length one.numbers.items))
    ++ (part_if sizes (codes ",\"bytes\":" ++ decimal one.bytes) ++ (codes ",\"keeps\":" ++ (bool_word one.keeps ++ codes "}")))))

abbrev pub suggestion_json : Bool → Suggestion → List ℕ
suggestion_json sizes suggestion =
    codes "{\"best\":" ++ (best_json (best_weighed suggestion) ++ (codes ",\"policies\":["
    ++ (join_with_byte 44 (map (weighed_json sizes) suggestion.weighed.items) ++ codes "\n]}\n")))
