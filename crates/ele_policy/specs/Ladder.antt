-- Ladders: which lists of pairs they are, and how they cut time into spans.
use Rattle.std.specs.Prelude.{◌≡◌, ℕ, zero, suc, ◌/◌, ◌%◌, ◌==◌, ◌<◌, ◌≤◌, nat_le, nat_lt, Bool, true, ◌&&◌, List, [], ◌∷◌, length, slice_get, Option, None}
use Rattle.std.specs.List.{count_by}
use Rattle.ele_moment.specs.Last.{last_moment}

-- an age and a width, in seconds
abbrev pub Rung : Type 0
Rung = ℕ × ℕ

-- the rung below each ladder: age 0, and spans of a second
abbrev pub ground : Rung
ground = (0, 1)

-- the age is greater, the width a multiple, and neither exceeds the seconds from the first moment to the last
abbrev pub is_above : Rung → Rung → Bool
is_above low high =
    nat_lt low.0 high.0 && nat_le high.0 last_moment && nat_lt 0 high.1 && nat_le high.1 last_moment && (high.1 % low.1 == 0)

-- each rung is above the one before it
abbrev pub climbs : Rung → List Rung → Bool
climbs low [] = true
climbs low (rung ∷ rungs) = is_above low rung && climbs rung rungs

-- one to eight rungs, with rising ages from at least 1, and widths of at least 1 each of which divides the next
pub record IsLadder (rungs : List Rung) : Type 0 where
  pub some : 0 < length rungs
  pub short : length rungs ≤ 8
  pub climbing : climbs ground rungs ≡ true

-- the level of an age: how many ages of the ladder it has reached
abbrev pub level_of : List Rung → ℕ → ℕ
level_of rungs age = count_by (λ rung. nat_le rung.0 age) rungs

-- the rung of a level; the first level is 1, and level 0 has none
abbrev pub rung_at : List Rung → ℕ → Option Rung
rung_at rungs zero = None
rung_at rungs (suc place) = slice_get rungs place

-- the number of the rung's span that has the moment
abbrev pub span_of : Rung → ℕ → ℕ
span_of rung moment = moment / rung.1

-- both moments are in one span of the rung
abbrev pub shares : ℕ → ℕ → Rung → Bool
shares a b rung = span_of rung a == span_of rung b
