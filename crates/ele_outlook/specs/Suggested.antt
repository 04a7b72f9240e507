-- A policy that keeps what is asked of the versions, at the least cost.
use Rattle.std.specs.Prelude.{◌≡◌, ℕ, Bool, true, false, List, [], Option, Some, None, slice_get}
use Rattle.ele_suggest.specs.Listed.{IsSuggestedFor}
use Rattle.ele_suggest.specs.SuggestedJson.{suggestion_json}
use Rattle.ele_suggest.specs.SuggestedText.{suggestion_csv, suggestion_text}
use Rattle.ele_suggest.specs.declared.asked.Asked.{Asked}
use Rattle.ele_suggest.specs.declared.suggestion.Suggestion.{Suggestion}
use Rattle.ele_tool_words.specs.declared.zone.Offset.{Offset}
use Rattle.ele_outlook.specs.declared.options.Form.{Form}
use Rattle.ele_outlook.specs.declared.options.Form.TheVariants.{Suggest}
use Rattle.ele_outlook.specs.declared.options.Layout.{Layout}
use Rattle.ele_outlook.specs.declared.options.Layout.TheVariants.{Table, Json, Csv}

-- which form suggests a policy
abbrev pub suggests : Form → Bool
suggests (Suggest layout) = true
suggests form = false

-- the suggestion for these closings, at the first of the moments if there is one
abbrev pub IsSuggestedAt : Asked → Offset → List ℕ → List ℕ → List ℕ → Option Suggestion → Type 0
IsSuggestedAt asked clock sizes closings moments None = ⊥
IsSuggestedAt asked clock sizes closings moments (Some suggestion) = IsSuggestedFor asked clock sizes closings (slice_get moments 0) suggestion

-- the same, if it is wanted
abbrev pub IsSuggested : Bool → Asked → Offset → List ℕ → List ℕ → List ℕ → Option Suggestion → Type 0
IsSuggested false asked clock sizes closings moments suggested = suggested ≡ None
IsSuggested true asked clock sizes closings moments suggested = IsSuggestedAt asked clock sizes closings moments suggested

-- with bytes, if versions have sizes
abbrev pub suggested_text : Layout → Bool → Option Suggestion → List ℕ
suggested_text layout sizes None = []
suggested_text Table sizes (Some suggestion) = suggestion_text sizes suggestion
suggested_text Json sizes (Some suggestion) = suggestion_json sizes suggestion
suggested_text Csv sizes (Some suggestion) = suggestion_csv sizes suggestion
