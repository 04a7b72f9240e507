-- Two moments that share a span of a ladder share one of each higher rung.
use Rattle.std.specs.Prelude.{◌≡◌, ℕ, ◌≤◌, true, false, List}
use Rattle.std.specs.Option.{option_map_or}
use Rattle.ele_policy.specs.Ladder.{Rung, IsLadder, rung_at, shares}

-- they are in one span at that level
abbrev pub SharesAt : List Rung → ℕ → ℕ → ℕ → Type 0
SharesAt rungs level a b = option_map_or (shares a b) (rung_at rungs level) false ≡ true

abbrev pub SharesNest : Type 0
SharesNest =
    (rungs : List Rung) (low high a b : ℕ) → IsLadder rungs → low ≤ high → SharesAt rungs high a a → SharesAt rungs low a b
    → SharesAt rungs high a b
