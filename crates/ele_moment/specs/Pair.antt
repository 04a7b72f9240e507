-- Two digits at the beginning of a word.
use Rattle.std.specs.Prelude.{ℕ, ◌+◌, ◌-◌, ◌*◌, ◌&&◌, nat_le, Bool, List, [], ◌∷◌, Option, Some, None, if◌then◌else◌}

-- a byte from `0` to `9`
abbrev pub is_digit : ℕ → Bool
is_digit c = nat_le 48 c && nat_le c 57

-- a number of two digits, and what follows
abbrev pub pair_at : List ℕ → Option (ℕ × List ℕ)
pair_at [] = None
pair_at (a ∷ []) = None
pair_at (a ∷ b ∷ rest) =
    if is_digit a && is_digit b then Some (10 * (a - 48) + (b - 48), rest) else None
