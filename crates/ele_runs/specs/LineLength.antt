-- The line, unless it is too long.
use Rattle.std.specs.Prelude.{ℕ, List, Option, Some, None, nat_le, length, if◌then◌else◌}
use Rattle.ele_script.specs.Words.{longest_line}

-- the line, unless it is too long
abbrev pub line_unless_long : List ℕ → Option (List ℕ)
line_unless_long line = if nat_le (length line) longest_line then Some line else None
