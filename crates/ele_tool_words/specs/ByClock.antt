-- Times in a place: one that names no offset is by the clock there.
use Rattle.std.specs.Prelude.{◌≡◌, ◌≢◌, ℕ, ◌≤◌, List, [], ◌⊎◌}
use Rattle.ele_moment.specs.Last.{last_moment}
use Rattle.ele_moment.specs.Number.{SpellsNumber}
use Rattle.ele_tool_words.specs.Time.{IsShown, SpellsDate, SpellsZoned}
use Rattle.ele_tool_words.specs.declared.zone.Offset.{Offset}

-- a date and a time of day with its offset
pub record SpellsNamed (word : List ℕ) (m : ℕ) (offset : Offset) : Type 0 where
  pub zoned : SpellsZoned word m
  pub named : zoned.zone ≢ []
  pub offset_is : offset ≡ zoned.offset

-- a date and a time of day without an offset, as a time in UTC
pub record SpellsUnnamed (word : List ℕ) (local : ℕ) : Type 0 where
  pub zoned : SpellsZoned word local
  pub unnamed : zoned.zone ≡ []

-- a number of seconds, or the moment at which the clock shows the date and the time of day; a date alone is its midnight
abbrev pub SpellsLocal : Offset → List ℕ → ℕ → Type 0
SpellsLocal home word m =
    SpellsNumber word m ⊎ ((local : ℕ) × (SpellsDate word local ⊎ SpellsUnnamed word local) × IsShown local home m)

-- the word spells the time by a clock of the offset: the one that it names, or else that of the place
pub record SpellsBy (home : Offset) (word : List ℕ) (m : ℕ) (offset : Offset) : Type 0 where
  pub in_range : m ≤ last_moment
  pub form : SpellsNamed word m offset ⊎ (SpellsLocal home word m × (offset ≡ home))
