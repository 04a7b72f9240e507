-- The versions of a list, by the list's clock.
use Rattle.std.specs.Prelude.{◌≡◌, ℕ, ◌+◌, ◌-◌, ◌*◌, ◌/◌, min, List, [], ◌∷◌, map, slice_get, unwrap_or}
use Rattle.std.specs.List.{AllByRecursion}
use Rattle.ele_moment.specs.Day.{IsDay, IsDayNumber}
use Rattle.ele_tool_words.specs.declared.zone.Offset.{Offset}
use Rattle.ele_tool_words.specs.declared.zone.Offset.TheVariants.{Ahead, Behind}
use Rattle.ele_suggest.specs.declared.version.Version.{Version}

-- the seconds that a clock of that offset shows at a moment, since it showed the start of 1970; before that it shows 0
abbrev pub local_of : Offset → ℕ → ℕ
local_of (Ahead minutes) m = m + 60 * minutes
local_of (Behind minutes) m = m - 60 * minutes

-- the month of a day, which is counted from 1970-01-01; months are counted from January 1970
pub record IsMonth (day_number month : ℕ) : Type 0 where
  pub year : ℕ
  pub place : ℕ
  pub day : ℕ
  pub is : IsDay year place day
  pub number : IsDayNumber year place day day_number
  pub month_is : month + 23641 ≡ 12 * year + place

-- the size of the version with the number, counted from 1, or 0 if it has none
abbrev pub size_of : List ℕ → ℕ → ℕ
size_of sizes number = unwrap_or (slice_get sizes (number - 1)) 0

-- the version has what the clock showed as it closed, and its size; the calendar's last day is 9999-12-31
pub record IsRow (clock : Offset) (sizes : List ℕ) (version : Version) : Type 0 where
  pub local : version.local ≡ local_of clock version.closed
  pub month : IsMonth (min (version.local / 86400) 2932896) version.month
  pub bytes : version.bytes ≡ size_of sizes version.number

-- the closings with their numbers, the first of which has this one
abbrev pub numbered_from : ℕ → List ℕ → List (ℕ × ℕ)
numbered_from number [] = []
numbered_from number (closed ∷ later) = (number, closed) ∷ numbered_from (number + 1) later

abbrev pub number_and_closing : Version → ℕ × ℕ
number_and_closing version = (version.number, version.closed)

-- a version for each of the closings, in order, counted from 1
pub record AreVersions (clock : Offset) (sizes closings : List ℕ) (versions : List Version) : Type 0 where
  pub in_order : map number_and_closing versions ≡ numbered_from 1 closings
  pub rows : AllByRecursion (IsRow clock sizes) versions
