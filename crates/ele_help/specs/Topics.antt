-- Which words have help: those of a page, and those of a command.
use Rattle.std.specs.Prelude.{Bool, false, List, [], ◌∷◌, ℕ, Option, Some, None, ◌&&◌, ◌||◌, codes}
use Rattle.std.specs.List.{list_any}
use Rattle.std.specs.Str.{bytes_eq}
use Rattle.ele_commands.specs.declared.command.TheConstants.{ROWS}

-- the word of a page
abbrev pub is_page : List ℕ → Option (List ℕ) → Bool
is_page first None = list_any (bytes_eq first) (codes "script" ∷ codes "refusals" ∷ codes "policies" ∷ codes "limits" ∷ [])
is_page first (Some second) = false

-- both words of a command's name, of which the second may be empty, or the first alone
abbrev pub is_named : List ℕ → Option (List ℕ) → List ℕ → List ℕ → Bool
is_named first None one two = bytes_eq one first
is_named first (Some second) one two = bytes_eq one first && bytes_eq two second

abbrev pub is_command : List ℕ → Option (List ℕ) → Bool
is_command first second = list_any (λ row. is_named first second row.1.now row.2.now) ROWS

abbrev pub has_help : List ℕ → Option (List ℕ) → Bool
has_help first second = is_page first second || is_command first second
