-- Which lines take memory to be read.
use Rattle.std.specs.Prelude.{◌≡◌, ℕ, List, [], ◌∷◌, ◌++◌, ◌||◌, Bool, true, false}
use Rattle.std.specs.List.{list_any}
use Rattle.ele_commands.specs.declared.command.Command.{Command}
use Rattle.ele_script.specs.Value.{WordKind, NumberWord, HandleWord, VersionWord, MomentWord, EndWord, NameWord, PathWord, TaggedWord, TimedWord, SourceWord, BytesWord, PolicyWord}
use Rattle.ele_script.specs.PathWord.{begins_path}
use Rattle.ele_commands.specs.Command.{command_words, is_allowed}
use Rattle.ele_script.specs.Command.{kinds_behind}

-- paths and bytes take memory, and so does a group's name, which an event keeps in a box. A policy isn't counted, since it always
-- follows a path. A source may be a path
abbrev pub takes_memory : WordKind → Bool
takes_memory NumberWord = false
takes_memory HandleWord = false
takes_memory VersionWord = false
takes_memory MomentWord = false
takes_memory EndWord = false
takes_memory NameWord = true
takes_memory PathWord = true
takes_memory TaggedWord = true
takes_memory TimedWord = true
takes_memory SourceWord = true
takes_memory BytesWord = true
takes_memory PolicyWord = false

-- a word of the kind takes memory if it is read alone; a source or a path with a tag does only if it begins with a slash
abbrev pub word_takes : WordKind → List ℕ → Bool
word_takes SourceWord word = begins_path word
word_takes TaggedWord word = begins_path word
word_takes NameWord word = false
word_takes kind word = takes_memory kind

-- words of these kinds take memory: one is a path, bytes or a name; a source or a path with a tag must begin with a slash
abbrev pub words_take : List WordKind → List (List ℕ) → Bool
words_take (SourceWord ∷ []) words = list_any begins_path words
words_take (TaggedWord ∷ []) words = list_any begins_path words
words_take kinds words = list_any takes_memory kinds

-- the words after the command take memory
abbrev pub behind_takes : Command → List (List ℕ) → Bool
behind_takes command arguments = words_take (kinds_behind command arguments) arguments

-- the words begin with a command that the run has, and the words after it take memory
pub record TakesMemory (explains : Bool) (words : List (List ℕ)) : Type 0 where
  pub command : Command
  pub allowed : is_allowed explains command ≡ true
  pub arguments : List (List ℕ)
  pub are : words ≡ command_words command ++ arguments
  pub takes : behind_takes command arguments ≡ true

-- one of the words takes memory if it is read alone
abbrev pub any_takes : List WordKind → List (List ℕ) → Bool
any_takes (kind ∷ kinds) (word ∷ words) = word_takes kind word || any_takes kinds words
any_takes kinds words = false

-- the words begin with a command that the run has, and one of the words after it takes memory if it is read alone
pub record WordTakesMemory (explains : Bool) (words : List (List ℕ)) : Type 0 where
  pub command : Command
  pub allowed : is_allowed explains command ≡ true
  pub arguments : List (List ℕ)
  pub are : words ≡ command_words command ++ arguments
  pub takes : any_takes (kinds_behind command arguments) arguments ≡ true
