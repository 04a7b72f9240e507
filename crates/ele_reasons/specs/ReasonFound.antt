-- Words without a reason, and words that take memory. No public clause cites this module.
use Rattle.std.specs.Prelude.{◌&&◌, ◌≡◌, ℕ, Bool, true, false, List, [], ◌∷◌}
use Rattle.std.specs.Borrow.{Bor}
use Rattle.std.specs.List.{list_any}
use Rattle.std.specs.Str.{bytes_eq}
use Rattle.ele_commands.specs.declared.command.Command.{Command}
use Rattle.ele_commands.specs.declared.command.When.{When}
use Rattle.ele_commands.specs.Command.{allows}
use Rattle.ele_script.specs.Command.{kinds_behind}
use Rattle.ele_script.specs.FirstFault.{FitsCommand, IsOfKind}
use Rattle.ele_script.specs.Memory.{any_takes}
use Rattle.ele_script.specs.Value.{WordKind}

-- each word is of its kind
abbrev pub AreOfKinds : List WordKind → List (List ℕ) → Type 0
AreOfKinds (kind ∷ kinds) (word ∷ words) = IsOfKind kind word × AreOfKinds kinds words
AreOfKinds kinds words = Unit {0}

-- the words are a command and the words that it takes
pub record IsCommand (explains : Bool) (words : List (List ℕ)) : Type 0 where
  pub command : Command
  pub arguments : List (List ℕ)
  pub fits : FitsCommand explains words command arguments
  pub are : AreOfKinds (kinds_behind command arguments) arguments

-- the words fit a command, and one after it takes memory
pub record TakesBehind (explains : Bool) (words : List (List ℕ)) : Type 0 where
  pub command : Command
  pub arguments : List (List ℕ)
  pub fits : FitsCommand explains words command arguments
  pub takes : any_takes (kinds_behind command arguments) arguments ≡ true

-- the word begins the name in the row, which is of a command that the run has
abbrev pub begins_in : Bool → List ℕ → Command × Bor (List ℕ) × Bor (List ℕ) × Bor (List WordKind) × When → Bool
begins_in explains word row = bytes_eq word row.1.now && allows explains row.4

-- the first word begins the name in one of the rows
abbrev pub begin_row : Bool → List (List ℕ) → List (Command × Bor (List ℕ) × Bor (List ℕ) × Bor (List WordKind) × When) → Bool
begin_row explains [] rows = false
begin_row explains (word ∷ words) rows = list_any (begins_in explains word) rows
