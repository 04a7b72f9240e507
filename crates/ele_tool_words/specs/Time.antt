-- Which words spell a time, and which moment it is.
use Rattle.std.specs.Prelude.{◌≡◌, ◌≢◌, ℕ, ◌+◌, ◌*◌, ◌≤◌, List, [], ◌∷◌, ◌++◌, ◌⊎◌, IsTrue}
use Rattle.std.specs.Char.{is_ascii_digit}
use Rattle.std.specs.List.{list_all}
use Rattle.ele_moment.specs.declared.timestamp.Fields.{Fields}
use Rattle.ele_moment.specs.Day.{IsDay, IsDayNumber}
use Rattle.ele_moment.specs.Last.{last_moment}
use Rattle.ele_moment.specs.Number.{SpellsNumber}
use Rattle.ele_moment.specs.Timestamp.{date_text, time_text, IsTimestamp, IsWorth}
use Rattle.ele_tool_words.specs.Zone.{SpellsZone}
use Rattle.ele_tool_words.specs.declared.zone.Offset.{Offset}
use Rattle.ele_tool_words.specs.declared.zone.Offset.TheVariants.{Ahead, Behind}

-- nothing, or a point (46) and one or more digits
abbrev pub IsFraction : List ℕ → Type 0
IsFraction [] = Unit {0}
IsFraction (point ∷ digits) = (point ≡ 46) × (digits ≢ []) × IsTrue (list_all is_ascii_digit digits)

-- `T` (84), `t` (116) or a space (32), between a date and a time of day
abbrev pub IsMark : ℕ → Type 0
IsMark mark = (mark ≡ 84) ⊎ (mark ≡ 116) ⊎ (mark ≡ 32)

-- when a clock of that offset shows so many seconds, UTC shows the moment
abbrev pub IsShown : ℕ → Offset → ℕ → Type 0
IsShown local (Ahead minutes) m = m + 60 * minutes ≡ local
IsShown local (Behind minutes) m = m ≡ local + 60 * minutes

-- a date alone: its midnight in UTC
pub record SpellsDate (word : List ℕ) (m : ℕ) : Type 0 where
  pub year : ℕ
  pub month : ℕ
  pub day : ℕ
  pub number : ℕ
  pub is : IsDay year month day
  pub text : word ≡ date_text year month day
  pub number_is : IsDayNumber year month day number
  pub midnight : m ≡ 86400 * number

-- a date, a separator, a time of day, a fraction of a second, which is ignored, and a zone, whose clock shows the date and the time of day
pub record SpellsZoned (word : List ℕ) (m : ℕ) : Type 0 where
  pub fields : Fields
  pub mark : ℕ
  pub fraction : List ℕ
  pub zone : List ℕ
  pub local : ℕ
  pub offset : Offset
  pub text : word ≡ date_text fields.year fields.month fields.day ++ mark ∷ time_text fields.hour fields.minute fields.second ++ fraction ++ zone
  pub is : IsTimestamp fields
  pub mark_is : IsMark mark
  pub fraction_is : IsFraction fraction
  pub zone_is : SpellsZone zone offset
  pub worth : IsWorth fields local
  pub shown : IsShown local offset m

-- the word is the moment's number of seconds, a date, or a date and a time of day
pub record SpellsTime (word : List ℕ) (m : ℕ) : Type 0 where
  pub in_range : m ≤ last_moment
  pub form : SpellsNumber word m ⊎ SpellsDate word m ⊎ SpellsZoned word m
