-- What lines spell, and which ask for something.
use Rattle.std.specs.Prelude.{◌≡◌, ℕ, Bool, false, ◌≤◌, List, [], ◌∷◌, ◌++◌, length, true, Some, None}
use Rattle.ele_model.specs.declared.event.Event.{Event}
use Rattle.ele_commands.specs.declared.command.Command.{Command}
use Rattle.ele_commands.specs.declared.command.Command.TheVariants.{Ahead, Answers, Changes, Expiring, Gone, Handles, Pass, History, Removals, Story, Trim, Why}
use Rattle.ele_script.specs.declared.reading.Line.{Line}
use Rattle.ele_script.specs.declared.reading.Line.TheVariants as asks
use Rattle.ele_script.specs.declared.reading.Question.{Question}
use Rattle.ele_script.specs.declared.reading.Question.TheVariants as question
use Rattle.ele_commands.specs.Parts.{parts_of}
use Rattle.ele_script.specs.Value.{Value, Moment, Number, Path, SpellsValue, Tagged}
use Rattle.ele_commands.specs.Command.{command_words, is_allowed}
use Rattle.ele_script.specs.Words.{longest_line, words_of, is_worded}

-- the command of a question, and the values of the words after it
abbrev pub question_parts : Question → Command × List Value
question_parts (question.Why tagged) = (Why, Tagged tagged ∷ [])
question_parts (question.Ahead moment) = (Ahead, Moment moment ∷ [])
question_parts question.Gone = (Gone, [])
question_parts question.Handles = (Handles, [])
question_parts question.Answers = (Answers, [])
question_parts (question.Story path) = (Story, Path path ∷ [])
question_parts question.Removals = (Removals, [])
question_parts (question.Changes first second None) = (Changes, Moment first ∷ Moment second ∷ [])
question_parts (question.Changes first second (Some path)) = (Changes, Moment first ∷ Moment second ∷ Path path ∷ [])
question_parts (question.Expiring moment) = (Expiring, Moment moment ∷ [])

-- the command of what a line asks for, and the values of the words after it
abbrev pub line_parts : Line → Command × List Value
line_parts (asks.Event event) = parts_of event
line_parts (asks.Pass budget) = (Pass, Number budget ∷ [])
line_parts asks.History = (History, [])
line_parts asks.Trim = (Trim, [])
line_parts (asks.Question question) = question_parts question

-- each word spells its value
abbrev pub SpellsValues : List (List ℕ) → List Value → Type 0
SpellsValues [] [] = Unit {0}
SpellsValues (word ∷ words) (value ∷ values) = SpellsValue word value × SpellsValues words values
SpellsValues words values = ⊥

-- the words are the command, and words for its values
pub record SpellsWords (words : List (List ℕ)) (asked : Line) : Type 0 where
  pub arguments : List (List ℕ)
  pub are : words ≡ command_words (line_parts asked).0 ++ arguments
  pub values : SpellsValues arguments (line_parts asked).1

-- the line spells this, whatever its length
pub record SpellsLine (line : List ℕ) (asked : Line) : Type 0 where
  pub worded : is_worded line ≡ true
  pub words : SpellsWords (words_of line) asked

-- the line spells the event
abbrev pub Spells : List ℕ → Event → Type 0
Spells line event = SpellsLine line (asks.Event event)

-- the line asks for this: it is no longer than a line may be, it spells this, and the run has the command
pub record Asks (explains : Bool) (line : List ℕ) (asked : Line) : Type 0 where
  pub short : length line ≤ longest_line
  pub spells : SpellsLine line asked
  pub allowed : is_allowed explains (line_parts asked).0 ≡ true

-- the line asks for the event, in every run
abbrev pub AsksEvent : List ℕ → Event → Type 0
AsksEvent line event = Asks false line (asks.Event event)
