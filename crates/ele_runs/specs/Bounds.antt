-- The limits of a script.
use Rattle.std.specs.Prelude.{ℕ}

abbrev pub most_lines : ℕ
most_lines = 1000000

-- with the line feeds
abbrev pub most_bytes : ℕ
most_bytes = 8589934592
