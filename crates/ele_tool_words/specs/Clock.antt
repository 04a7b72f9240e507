-- The clock by which a word writes a time.
use Rattle.std.specs.Prelude.{◌≡◌, ℕ, ◌≤◌, List, ◌⊎◌}
use Rattle.ele_moment.specs.Last.{last_moment}
use Rattle.ele_moment.specs.Number.{SpellsNumber}
use Rattle.ele_tool_words.specs.Time.{SpellsDate, SpellsZoned}
use Rattle.ele_tool_words.specs.declared.zone.Offset.{Offset}
use Rattle.ele_tool_words.specs.declared.zone.Offset.TheVariants.{Ahead}

-- a number of seconds or a date, which is UTC's
abbrev pub SpellsPlain : List ℕ → ℕ → Offset → Type 0
SpellsPlain word m offset = (SpellsNumber word m ⊎ SpellsDate word m) × (offset ≡ Ahead 0)

-- a date and a time of day by a clock of that offset
abbrev pub SpellsByClock : List ℕ → ℕ → Offset → Type 0
SpellsByClock word m offset = (zoned : SpellsZoned word m) × (offset ≡ zoned.offset)

-- the word spells the time, by a clock of that offset
pub record SpellsClocked (word : List ℕ) (m : ℕ) (offset : Offset) : Type 0 where
  pub in_range : m ≤ last_moment
  pub form : SpellsPlain word m offset ⊎ SpellsByClock word m offset
