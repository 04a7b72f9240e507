-- A suggestion for a list: of the candidates, by the list's clock.
use Rattle.std.specs.Prelude.{ℕ, ◌+◌, ◌-◌, min, List, length, slice_get, Option, Some, None, unwrap_or}
use Rattle.ele_moment.specs.Last.{last_moment}
use Rattle.ele_tool_words.specs.declared.zone.Offset.{Offset}
use Rattle.ele_suggest.specs.Candidates.{candidates_of}
use Rattle.ele_suggest.specs.Suggested.{IsSuggestion}
use Rattle.ele_suggest.specs.Versions.{AreVersions}
use Rattle.ele_suggest.specs.declared.asked.Asked.{Asked}
use Rattle.ele_suggest.specs.declared.suggestion.Suggestion.{Suggestion}
use Rattle.ele_suggest.specs.declared.version.Version.{Version}

-- the last closing, or the first moment if there is none
abbrev pub last_closing : List ℕ → ℕ
last_closing closings = unwrap_or (slice_get closings (length closings - 1)) 0

-- a second later, or the last moment
abbrev pub second_after : ℕ → ℕ
second_after moment = min (moment + 1) last_moment

-- the moment, or a second after the last closing if there is none: by then each policy has let go of what it lets go at once
abbrev pub moment_of : Option ℕ → List ℕ → ℕ
moment_of None closings = second_after (last_closing closings)
moment_of (Some at) closings = at

-- what each of the candidates keeps of the versions of these closings, and the best of them
pub record IsSuggestedFor (asked : Asked) (clock : Offset) (sizes closings : List ℕ) (at : Option ℕ) (suggestion : Suggestion) : Type 0 where
  pub versions : List Version
  pub are : AreVersions clock sizes closings versions
  pub suggested : IsSuggestion asked closings versions (candidates_of asked.spans.items) (moment_of at closings) suggestion
