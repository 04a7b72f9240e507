-- The first fault of a line that asks for nothing.
use Rattle.std.specs.Prelude.{◌≡◌, ◌≢◌, ℕ, Bool, ◌<◌, ◌≤◌, List, ◌∷◌, ◌++◌, length, Some, Err, true, false, ◌⊎◌}
use Rattle.std.specs.Option.{option_map}
use Rattle.ele_path.specs.FirstFault.{path_fault}
use Rattle.ele_commands.specs.declared.command.Command.{Command}
use Rattle.ele_printer.specs.declared.fault.LineFault.{LineFault}
use Rattle.ele_printer.specs.declared.fault.LineFault.TheVariants.{BadName, BadMoment, Syntax, LineTooLong}
use Rattle.ele_printer.specs.LineFault.{fault_of_path}
use Rattle.ele_script.specs.Value.{WordKind, NumberWord, HandleWord, VersionWord, MomentWord, EndWord, NameWord, PathWord, TaggedWord, TimedWord, SourceWord, BytesWord, PolicyWord, Value, word_kind, SpellsValue}
use Rattle.ele_script.specs.PolicyWord.{ReadsPolicy}
use Rattle.ele_script.specs.PathWord.{IsTaggedWordFault, IsTimedWordFault, IsSourceFault}
use Rattle.ele_commands.specs.Command.{command_words, is_allowed}
use Rattle.ele_script.specs.Command.{kinds_behind}
use Rattle.ele_script.specs.Words.{longest_line, words_of, is_worded}
use Rattle.ele_script.specs.Spells.{Asks}
use Rattle.ele_script.specs.declared.reading.Line.{Line}
use Rattle.ele_script.specs.declared.reading.Line.TheVariants as asks
use Rattle.ele_model.specs.declared.event.Event.{Event}

-- the word stands for some value of the kind
abbrev pub IsOfKind : WordKind → List ℕ → Type 0
IsOfKind kind word = (value : Value) × (word_kind value ≡ kind) × SpellsValue word value

-- the fault of a word that stands for no value of its kind; a handle and a version are numbers, and an end is a moment
abbrev pub IsWordFault : WordKind → List ℕ → LineFault → Type 0
IsWordFault NumberWord word fault = (fault ≡ Syntax) × ¬ IsOfKind NumberWord word
IsWordFault HandleWord word fault = (fault ≡ Syntax) × ¬ IsOfKind NumberWord word
IsWordFault VersionWord word fault = (fault ≡ Syntax) × ¬ IsOfKind NumberWord word
IsWordFault MomentWord word fault = (fault ≡ BadMoment) × ¬ IsOfKind MomentWord word
IsWordFault EndWord word fault = (fault ≡ BadMoment) × ¬ IsOfKind MomentWord word
IsWordFault NameWord word fault = (fault ≡ BadName) × ¬ IsOfKind NameWord word
IsWordFault PathWord word fault = option_map fault_of_path (path_fault word) ≡ Some fault
IsWordFault TaggedWord word fault = IsTaggedWordFault word fault
IsWordFault TimedWord word fault = IsTimedWordFault word fault
IsWordFault SourceWord word fault = IsSourceFault word fault
IsWordFault BytesWord word fault = (fault ≡ Syntax) × ¬ IsOfKind BytesWord word
IsWordFault PolicyWord word fault = ReadsPolicy word (Err fault)

-- the fault of the first bad word, from the left
abbrev pub IsFirstWordFault : List WordKind → List (List ℕ) → LineFault → Type 0
IsFirstWordFault (kind ∷ kinds) (word ∷ words) fault =
    IsWordFault kind word fault ⊎ (IsOfKind kind word × IsFirstWordFault kinds words fault)
IsFirstWordFault kinds words fault = ⊥

-- the words are a command that the run has, and as many words as it takes
pub record FitsCommand (explains : Bool) (words : List (List ℕ)) (command : Command) (arguments : List (List ℕ)) : Type 0 where
  pub allowed : is_allowed explains command ≡ true
  pub are : words ≡ command_words command ++ arguments
  pub count : length arguments ≡ length (kinds_behind command arguments)

-- the fault of plain words: they fit no command, or that of the first bad word
pub data IsFaultOfWords (explains : Bool) (words : List (List ℕ)) (fault : LineFault) : Type 0 where
  no_command : ((command : Command) (arguments : List (List ℕ)) → ¬ FitsCommand explains words command arguments) → fault ≡ Syntax → IsFaultOfWords explains words fault
  of_word : (command : Command) (arguments : List (List ℕ)) → FitsCommand explains words command arguments → IsFirstWordFault (kinds_behind command arguments) arguments fault → IsFaultOfWords explains words fault

-- the first fault of a line: its length, its bytes and spaces, its command and number of words, its first bad word
pub data IsFirstFault (explains : Bool) (line : List ℕ) (fault : LineFault) : Type 0 where
  too_long : longest_line < length line → fault ≡ LineTooLong → IsFirstFault explains line fault
  not_worded : length line ≤ longest_line → is_worded line ≡ false → fault ≡ Syntax → IsFirstFault explains line fault
  of_words : length line ≤ longest_line → is_worded line ≡ true → IsFaultOfWords explains (words_of line) fault → IsFirstFault explains line fault

-- why a line is no event: its first fault, or it asks for something else
pub data IsEventFault (line : List ℕ) (fault : LineFault) : Type 0 where
  of_line : IsFirstFault false line fault → IsEventFault line fault
  no_event : (asked : Line) → Asks false line asked → ((event : Event) → asked ≢ asks.Event event) → fault ≡ Syntax → IsEventFault line fault
