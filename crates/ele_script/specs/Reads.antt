-- What the words after a command are read as. No public clause cites this module.
use Rattle.std.specs.Prelude.{◌≡◌, ◌≢◌, ℕ, List, length, Bool, true, ◌⊎◌, Result, Ok, Err}
use Rattle.ele_commands.specs.declared.command.Command.{Command}
use Rattle.ele_printer.specs.declared.fault.LineFault.{LineFault}
use Rattle.ele_printer.specs.declared.fault.LineFault.TheVariants.{NoMemory, Syntax}
use Rattle.ele_script.specs.declared.reading.Line.{Line}
use Rattle.ele_script.specs.Value.{WordKind, Value}
use Rattle.ele_script.specs.Command.{kinds_behind}
use Rattle.ele_script.specs.Memory.{behind_takes, words_take}
use Rattle.ele_script.specs.Spells.{line_parts, SpellsValues}
use Rattle.ele_script.specs.FirstFault.{IsFirstWordFault}

-- there are not as many words as kinds, or the first bad word has the fault
pub data IsFaultOfKinds (kinds : List WordKind) (words : List (List ℕ)) (fault : LineFault) : Type 0 where
  miscounted : length words ≢ length kinds → fault ≡ Syntax → IsFaultOfKinds kinds words fault
  bad_word : length words ≡ length kinds → IsFirstWordFault kinds words fault → IsFaultOfKinds kinds words fault

-- the words are refused with the fault, or with NoMemory if they take memory
pub record IsRefused (takes : Bool) (kinds : List WordKind) (words : List (List ℕ)) (fault : LineFault) : Type 0 where
  pub memory : fault ≡ NoMemory → takes ≡ true
  pub is : (fault ≡ NoMemory) ⊎ IsFaultOfKinds kinds words fault

-- the words spell the values of what was read, or are refused
abbrev pub Reads : {A : Type 0} → List WordKind → (A → List Value) → List (List ℕ) → Result A LineFault → Type 0
Reads kinds values words (Ok read) = SpellsValues words (values read)
Reads kinds values words (Err fault) = IsRefused (words_take kinds words) kinds words fault

-- the command and the words after it are what is asked for
pub record SpellsBehind (command : Command) (words : List (List ℕ)) (asked : Line) : Type 0 where
  pub command_is : (line_parts asked).0 ≡ command
  pub values : SpellsValues words (line_parts asked).1

-- they are what was read, or are refused
abbrev pub ReadsLine : Command → List (List ℕ) → Result Line LineFault → Type 0
ReadsLine command words (Ok asked) = SpellsBehind command words asked
ReadsLine command words (Err fault) = IsRefused (behind_takes command words) (kinds_behind command words) words fault
