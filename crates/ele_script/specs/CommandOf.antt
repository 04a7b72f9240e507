-- The command that words begin with, looked up in a table.
use Rattle.std.specs.Prelude.{◌≡◌, Bool, ℕ, List, [], ◌∷◌, Option, Some, None, map, if◌then◌else◌}
use Rattle.std.specs.Borrow.{Bor}
use Rattle.std.specs.Str.{bytes_eq}
use Rattle.std.specs.Option.{option_and_then}
use Rattle.ele_commands.specs.declared.command.Command.{Command}
use Rattle.ele_commands.specs.declared.command.When.{When}
use Rattle.ele_commands.specs.declared.command.TheConstants.{ROWS}
use Rattle.ele_commands.specs.declared.kind.WordKind.{WordKind}
use Rattle.ele_commands.specs.Command.{command_words, is_allowed, name_of}

-- the words after a name
abbrev pub behind : List (List ℕ) → List (List ℕ) → Option (List (List ℕ))
behind [] words = Some words
behind (word ∷ name) [] = None
behind (word ∷ name) (first ∷ words) = if bytes_eq first word then behind name words else None

abbrev pub or_next : Command → Option (List (List ℕ)) → Option (Command × List (List ℕ)) → Option (Command × List (List ℕ))
or_next command (Some rest) next = Some (command, rest)
or_next command None next = next

-- the first command of the table whose name the words begin with, and the words after it
abbrev pub find_command : List (List (List ℕ) × Command) → List (List ℕ) → Option (Command × List (List ℕ))
find_command [] words = None
find_command (named ∷ table) words = or_next named.1 (behind named.0 words) (find_command table words)

-- all commands
abbrev pub commands : List Command
commands = map (λ row. row.0) ROWS

-- a command with its name
abbrev pub named : Command → List (List ℕ) × Command
named command = (command_words command, command)

-- the command that the words begin with, and the words after it
unfoldable pub command_of : List (List ℕ) → Option (Command × List (List ℕ))
command_of words = find_command (map named commands) words

-- if the run has the command
abbrev pub if_allowed : Bool → Command × List (List ℕ) → Option (Command × List (List ℕ))
if_allowed explains found = if is_allowed explains found.0 then Some found else None

abbrev pub command_in : Bool → List (List ℕ) → Option (Command × List (List ℕ))
command_in explains words = option_and_then (if_allowed explains) (command_of words)

-- a row's command with its name
abbrev pub entry : Command × Bor (List ℕ) × Bor (List ℕ) × Bor (List WordKind) × When → List (List ℕ) × Command
entry row = (name_of row.1.now row.2.now, row.0)

abbrev pub first_letter : List (List ℕ) → Option ℕ
first_letter ((letter ∷ word) ∷ words) = Some letter
first_letter words = None

-- the table finds the command of all words that begin with the letter
abbrev pub FindsAll : ℕ → List (List (List ℕ) × Command) → Type 0
FindsAll letter table =
    (word : List ℕ) (words : List (List ℕ)) → find_command table ((letter ∷ word) ∷ words) ≡ command_of ((letter ∷ word) ∷ words)
