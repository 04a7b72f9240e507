-- Marks in words.
use Rattle.std.specs.Prelude.{ℕ, ◌==◌, Bool}

-- a byte is the mark
abbrev pub is_mark : ℕ → ℕ → Bool
is_mark mark byte = byte == mark
