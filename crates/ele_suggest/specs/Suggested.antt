-- A suggestion: what each of some policies keeps of a list at a moment, and which of them is the best.
use Rattle.std.specs.Prelude.{◌≡◌, ℕ, List, slice_get, Option, option_and_then}
use Rattle.std.specs.List.{AllZip}
use Rattle.ele_policy.specs.declared.policy.Policy.{Policy}
use Rattle.ele_forecast.specs.Stays.{AreKept}
use Rattle.ele_suggest.specs.Asked.{bytes_of, keeps_asked}
use Rattle.ele_suggest.specs.Best.{IsBestOf}
use Rattle.ele_suggest.specs.declared.asked.Asked.{Asked}
use Rattle.ele_suggest.specs.declared.suggestion.Suggestion.{Suggestion}
use Rattle.ele_suggest.specs.declared.version.Version.{Version}
use Rattle.ele_suggest.specs.declared.weighed.Weighed.{Weighed}

-- the versions that stay under the policy, their bytes, and whether they are what is asked
pub record IsWeighed (asked : Asked) (closings : List ℕ) (versions : List Version) (at : ℕ) (policy : Policy) (weighed : Weighed) : Type 0 where
  pub policy_is : weighed.policy ≡ policy
  pub kept : AreKept policy closings at weighed.numbers.items
  pub bytes_are : weighed.bytes ≡ bytes_of versions weighed.numbers.items
  pub keeps_is : weighed.keeps ≡ keeps_asked asked at versions weighed.numbers.items

-- the same of each of the policies, in their order
abbrev pub AreWeighed : Asked → List ℕ → List Version → ℕ → List Policy → List Weighed → Type 0
AreWeighed asked closings versions at policies weighed = AllZip (λ policy one. IsWeighed asked closings versions at policy one) policies weighed

-- the policies weighed, and the best of them
pub record IsSuggestion (asked : Asked) (closings : List ℕ) (versions : List Version) (policies : List Policy) (at : ℕ) (suggestion : Suggestion)
    : Type 0 where
  pub weighed : AreWeighed asked closings versions at policies suggestion.weighed.items
  pub best : IsBestOf suggestion.weighed.items suggestion.best

-- the best policy and what it keeps, if there is one
abbrev pub best_weighed : Suggestion → Option Weighed
best_weighed suggestion = option_and_then (slice_get suggestion.weighed.items) suggestion.best
