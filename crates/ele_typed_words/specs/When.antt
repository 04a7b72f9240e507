-- Which moment a word spells where a clock shows now.
use Rattle.std.specs.Prelude.{◌≡◌, ◌≤◌, ℕ, ◌+◌, ◌*◌, ◌/◌, ◌==◌, ◌&&◌, ◌||◌, nat_le, nat_lt, not, Bool, false, List, [], ◌∷◌, ◌++◌, take, drop, length, Option, Some, None, MatchBool, codes, slice_get, if◌then◌else◌}
use Rattle.std.specs.Option.{option_map_or}
use Rattle.std.specs.Str.{bytes_eq}
use Rattle.ele_moment.specs.Last.{last_moment}
use Rattle.ele_tool_words.specs.Length.{SpellsLength}
use Rattle.ele_tool_words.specs.Time.{SpellsTime}
use Rattle.ele_tool_words.specs.Zone.{SpellsClock}
use Rattle.ele_tool_words.specs.declared.zone.Offset.{Offset}
use Rattle.ele_tool_words.specs.declared.zone.Offset.TheVariants.{Ahead, Behind}

-- the word's byte at that place is this one
abbrev pub is_at : ℕ → ℕ → List ℕ → Bool
is_at place byte word = option_map_or (λ other. other == byte) (slice_get word place) false

-- so long after now
pub record IsAfter (now : ℕ) (word : List ℕ) (m : ℕ) : Type 0 where
  pub seconds : ℕ
  pub long : SpellsLength word seconds
  pub sum : m ≡ now + seconds
  pub in_range : m ≤ last_moment

-- so long before now
pub record IsBefore (now : ℕ) (word : List ℕ) (m : ℕ) : Type 0 where
  pub seconds : ℕ
  pub long : SpellsLength word seconds
  pub sum : m + seconds ≡ now

-- on the day of now in UTC, when a clock shows the word
pub record IsOnDay (now : ℕ) (word : List ℕ) (m : ℕ) : Type 0 where
  pub minutes : ℕ
  pub shown : SpellsClock word minutes
  pub moment : m ≡ now / 86400 * 86400 + 60 * minutes

-- the minutes of an offset ahead of UTC
abbrev pub minutes_ahead : Option Offset → Option ℕ
minutes_ahead None = None
minutes_ahead (Some (Ahead minutes)) = Some minutes
minutes_ahead (Some (Behind minutes)) = None

-- five bytes with a colon (58) in their middle
abbrev pub is_clock : List ℕ → Bool
is_clock word = (length word == 5) && is_at 2 58 word

-- a colon or a point (46) is behind the minutes
abbrev pub has_mark : List ℕ → Bool
has_mark word = is_at 16 58 word || is_at 16 46 word

-- a date and a time of day without seconds; no time without seconds has 30 bytes
abbrev pub lacks_seconds : List ℕ → Bool
lacks_seconds word = nat_le 16 (length word) && nat_lt (length word) 30 && is_at 13 58 word && not (has_mark word)

-- a time, with `:00` behind its minutes if it has no seconds
abbrev pub with_seconds : List ℕ → List ℕ
with_seconds word = if lacks_seconds word then take 16 word ++ (codes ":00" ++ drop 16 word) else word

-- a time of day alone, or a time as other tools print it, with or without seconds
abbrev pub SpellsUnsigned : ℕ → List ℕ → ℕ → Type 0
SpellsUnsigned now word m = MatchBool (is_clock word) (IsOnDay now word m) (SpellsTime (with_seconds word) m)

-- a length behind `+` (43) or `-` (45), or one of these
abbrev pub SpellsSigned : ℕ → List ℕ → ℕ → Type 0
SpellsSigned now word m =
    MatchBool (is_at 0 43 word) (IsAfter now (drop 1 word) m) (MatchBool (is_at 0 45 word) (IsBefore now (drop 1 word) m) (SpellsUnsigned now word m))

-- `now`, or one of these
abbrev pub SpellsWhen : ℕ → List ℕ → ℕ → Type 0
SpellsWhen now word m = MatchBool (bytes_eq word (codes "now")) (m ≡ now) (SpellsSigned now word m)
