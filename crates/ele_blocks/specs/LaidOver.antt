-- Items that replace part of a list. No public clause cites this module.
use Rattle.std.specs.Prelude.{ℕ, ◌+◌, List, ◌++◌, length, take, drop}

-- the list with the new items in the places from the first on, longer if they go past its end
abbrev pub laid_over : {X : Type 0} → ℕ → List X → List X → List X
laid_over first new old = take first old ++ (new ++ drop (first + length new) old)
