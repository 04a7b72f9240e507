-- Which words spell an offset from UTC.
use Rattle.std.specs.Prelude.{◌≡◌, ℕ, ◌+◌, ◌*◌, ◌<◌, List, [], ◌∷◌, ◌++◌, ◌⊎◌}
use Rattle.ele_moment.specs.Timestamp.{two_digits}
use Rattle.ele_tool_words.specs.declared.zone.Offset.{Offset}
use Rattle.ele_tool_words.specs.declared.zone.Offset.TheVariants.{Ahead, Behind}

-- HH:MM or HHMM on a clock of 24 hours, in minutes; 58 is the colon
pub record SpellsClock (word : List ℕ) (minutes : ℕ) : Type 0 where
  pub hour : ℕ
  pub minute : ℕ
  pub hour_in : hour < 24
  pub minute_in : minute < 60
  pub text : (word ≡ two_digits hour ++ 58 ∷ two_digits minute) ⊎ (word ≡ two_digits hour ++ two_digits minute)
  pub worth : minutes ≡ 60 * hour + minute

-- `+` (43) and how far a clock is ahead of UTC, or `-` (45) and how far it is behind
abbrev pub SpellsOffset : List ℕ → Offset → Type 0
SpellsOffset word (Ahead minutes) = (clock : List ℕ) × (word ≡ 43 ∷ clock) × SpellsClock clock minutes
SpellsOffset word (Behind minutes) = (clock : List ℕ) × (word ≡ 45 ∷ clock) × SpellsClock clock minutes

-- nothing, `Z` (90) or `z` (122)
abbrev pub IsUtc : List ℕ → Type 0
IsUtc zone = (zone ≡ []) ⊎ (zone ≡ 90 ∷ []) ⊎ (zone ≡ 122 ∷ [])

-- UTC, or an offset, with a space (32) before it or without
abbrev pub SpellsZone : List ℕ → Offset → Type 0
SpellsZone zone offset =
    (IsUtc zone × (offset ≡ Ahead 0)) ⊎ SpellsOffset zone offset ⊎ ((word : List ℕ) × (zone ≡ 32 ∷ word) × SpellsOffset word offset)
