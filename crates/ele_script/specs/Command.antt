-- The kinds of the words after a command's name.
use Rattle.std.specs.Prelude.{ℕ, ◌==◌, Bool, false, List, [], ◌∷◌, length}
use Rattle.ele_commands.specs.Command.{kinds_of}
use Rattle.ele_commands.specs.declared.command.Command.{Command}
use Rattle.ele_script.specs.Value.{WordKind, EndWord, MomentWord, PathWord}

-- the kinds, with the last one that may be left out or without it: an end, or a path after a moment
abbrev pub with_end : List WordKind → Bool → List WordKind
with_end [] ended = []
with_end (EndWord ∷ []) false = []
with_end (MomentWord ∷ PathWord ∷ []) false = MomentWord ∷ []
with_end (kind ∷ kinds) ended = kind ∷ with_end kinds ended

abbrev pub kinds_if : Command → Bool → List WordKind
kinds_if command ended = with_end (kinds_of command) ended

-- the kinds of these words: the last one that may be left out is among them only if each kind has its word
abbrev pub kinds_behind : Command → List (List ℕ) → List WordKind
kinds_behind command arguments = kinds_if command (length arguments == length (kinds_of command))
