-- What an unknown command probably means.
use Rattle.std.specs.Prelude.{ℕ, ◌==◌, ◌&&◌, nat_le, List, [], ◌∷◌, if◌then◌else◌, codes}
use Rattle.std.specs.Str.{bytes_eq}
use Rattle.ele_commands.specs.declared.command.Command.TheVariants.{ListNames, Read, Unlink, Rename}
use Rattle.ele_reasons.specs.declared.reasons.Hint.{Hint}
use Rattle.ele_reasons.specs.declared.reasons.Hint.TheVariants.{Explaining, Case, Instead, Leave, Place, Remark, Group, Open, Unknown}

-- by its first byte: `#` (35), or a letter from `A` (65) to `Z` (90)
abbrev pub letter_hint : List ℕ → Hint
letter_hint [] = Unknown
letter_hint (first ∷ rest) = if first == 35 then Remark else if nat_le 65 first && nat_le first 90 then Case else Unknown

-- a word that ends or changes directory in another tool, or any other word
abbrev pub session_hint : List ℕ → Hint
session_hint word =
    if bytes_eq word (codes "exit") then Leave
    else if bytes_eq word (codes "quit") then Leave
    else if bytes_eq word (codes "cd") then Place
    else letter_hint word

-- a command of a shell, or any other word
abbrev pub shell_hint : List ℕ → Hint
shell_hint word =
    if bytes_eq word (codes "ls") then Instead ListNames
    else if bytes_eq word (codes "cat") then Instead Read
    else if bytes_eq word (codes "rm") then Instead Unlink
    else if bytes_eq word (codes "mv") then Instead Rename
    else session_hint word

-- of a word that asks what happened, or of another one
abbrev pub audit_hint : List ℕ → Hint
audit_hint word =
    if bytes_eq word (codes "gone") then Explaining
    else if bytes_eq word (codes "handles") then Explaining
    else if bytes_eq word (codes "answers") then Explaining
    else if bytes_eq word (codes "story") then Explaining
    else if bytes_eq word (codes "removals") then Explaining
    else if bytes_eq word (codes "changes") then Explaining
    else if bytes_eq word (codes "expiring") then Explaining
    else shell_hint word

-- of a word that begins no command of the run
abbrev pub word_hint : List ℕ → Hint
word_hint word =
    if bytes_eq word (codes "why") then Explaining
    else if bytes_eq word (codes "ahead") then Explaining
    else audit_hint word

-- a word that begins commands of two words
abbrev pub second_hint : List ℕ → Hint
second_hint word =
    if bytes_eq word (codes "group") then Group
    else if bytes_eq word (codes "open") then Open
    else Unknown

-- words that are no command because of the word with this number
abbrev pub hint_of : ℕ → List (List ℕ) → Hint
hint_of number [] = Unknown
hint_of number (word ∷ words) = if number == 2 then second_hint word else word_hint word
