-- Which words mean spans.
use Rattle.std.specs.Prelude.{◌≡◌, ℕ, ◌≤◌, ◌==◌, Bool, true, List, length, codes, Option, Some, None, if◌then◌else◌}
use Rattle.std.specs.List.{AllZip, after_first, before_first, list_any, slice_split}
use Rattle.std.specs.Str.{bytes_eq}
use Rattle.ele_tool_words.specs.Length.{SpellsLength}
use Rattle.ele_suggest.specs.declared.grain.Grain.{Grain}
use Rattle.ele_suggest.specs.declared.grain.Grain.TheVariants.{Each, Hour, Day, Week, Month, Year}
use Rattle.ele_suggest.specs.declared.grain.Span.{Span}

-- a colon (58)
abbrev pub is_colon : ℕ → Bool
is_colon byte = byte == 58

-- a comma (44)
abbrev pub is_comma : ℕ → Bool
is_comma byte = byte == 44

-- the periods that a word names
abbrev pub grain_of : List ℕ → Option Grain
grain_of word =
    if bytes_eq word (codes "all") then Some Each
    else (if bytes_eq word (codes "hourly") then Some Hour
    else (if bytes_eq word (codes "daily") then Some Day
    else (if bytes_eq word (codes "weekly") then Some Week
    else (if bytes_eq word (codes "monthly") then Some Month
    else (if bytes_eq word (codes "yearly") then Some Year else None)))))

-- an age, which is a length, a colon and periods
pub record SpellsSpan (word : List ℕ) (span : Span) : Type 0 where
  pub colon : list_any is_colon word ≡ true
  pub age : SpellsLength (before_first is_colon word) span.age
  pub grain : grain_of (after_first is_colon word) ≡ Some span.grain

-- spans, with a comma between each two, and no more than can be asked for
pub record SpellsSpans (text : List ℕ) (spans : List Span) : Type 0 where
  pub each : AllZip SpellsSpan (slice_split is_comma text) spans
  pub few : length spans ≤ 8
