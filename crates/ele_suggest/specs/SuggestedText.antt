-- A suggestion as a table and as CSV: a heading, and a row for each policy. A row ends with a line feed.
use Rattle.std.specs.Prelude.{ℕ, ◌+◌, ◌==◌, Bool, true, false, List, [], ◌∷◌, ◌++◌, Option, Some, None, codes, decimal, length}
use Rattle.ele_policy.specs.PolicyText.{policy_word}
use Rattle.ele_forecast_forms.specs.Parts.{part_if}
use Rattle.ele_suggest.specs.Suggested.{best_weighed}
use Rattle.ele_suggest.specs.declared.suggestion.Suggestion.{Suggestion}
use Rattle.ele_suggest.specs.declared.weighed.Weighed.{Weighed}

-- the place is that of the best
abbrev pub is_best : Option ℕ → ℕ → Bool
is_best None place = false
is_best (Some best) place = best == place

-- whether a policy is the best, or else whether it keeps what is asked
abbrev pub verdict_word : Bool → Bool → List ℕ
verdict_word true keeps = codes "best"
verdict_word false true = codes "yes"
verdict_word false false = codes "no"

-- what follows the policy in its row: how many versions stay, their bytes if versions have sizes, and the verdict
abbrev pub cells_text : List ℕ → Bool → Bool → Weighed → List ℕ
cells_text between sizes best one =
    (between ++ decimal (length one.numbers.items)) ++ (part_if sizes (between ++ decimal one.bytes)
    ++ (between ++ (verdict_word best one.keeps ++ codes "\n")))

-- the row of a policy, with its word between `around` and `around`
abbrev pub row_text : List ℕ → List ℕ → Bool → Bool → Weighed → List ℕ
row_text around between sizes best one = around ++ (policy_word one.policy ++ (around ++ cells_text between sizes best one))

-- the rows of policies, the first of which is at this place
abbrev pub rows_from : (Bool → Weighed → List ℕ) → Option ℕ → ℕ → List Weighed → List ℕ
rows_from row best place [] = []
rows_from row best place (one ∷ others) = row (is_best best place) one ++ rows_from row best (place + 1) others

abbrev pub rows_text : List ℕ → List ℕ → Bool → Suggestion → List ℕ
rows_text around between sizes suggestion = rows_from (row_text around between sizes) suggestion.best 0 suggestion.weighed.items

abbrev pub best_word : Option Weighed → List ℕ
best_word None = codes "none"
best_word (Some one) = policy_word one.policy

-- the last line of the table: the best policy
abbrev pub best_line : Suggestion → List ℕ
best_line suggestion = codes "best " ++ (best_word (best_weighed suggestion) ++ codes "\n")

abbrev pub table_heading : Bool → List ℕ
table_heading false = codes "policy versions keeps\n"
table_heading true = codes "policy versions bytes keeps\n"

abbrev pub suggestion_text : Bool → Suggestion → List ℕ
suggestion_text sizes suggestion = table_heading sizes ++ (rows_text [] (codes " ") sizes suggestion ++ best_line suggestion)

abbrev pub csv_heading : Bool → List ℕ
csv_heading false = codes "policy,versions,keeps\n"
csv_heading true = codes "policy,versions,bytes,keeps\n"

abbrev pub suggestion_csv : Bool → Suggestion → List ℕ
suggestion_csv sizes suggestion = csv_heading sizes ++ rows_text (codes "\"") (codes ",") sizes suggestion
