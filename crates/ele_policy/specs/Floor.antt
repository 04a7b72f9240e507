-- Which numbers of versions are a floor.
use Rattle.std.specs.Prelude.{ℕ, ◌≤◌}

-- none, or up to 16 versions
abbrev pub IsFloor : ℕ → Type 0
IsFloor versions = versions ≤ 16
