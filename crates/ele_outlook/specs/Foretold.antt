-- What a forecast reads and writes, for each of its ends.
use Rattle.std.specs.Prelude.{◌≡◌, ◌≢◌, ℕ, Bool, IfOk, List, [], Option, Result, Ok, Err, ◌⊎◌}
use Rattle.std.specs.Io.KnownBytes.{Appends, Consumes, IsAtEnd, Keeps}
use Rattle.ele_output.specs.Front.{AppendsFront}
use Rattle.ele_outlook.specs.Input.{IsFirstBad, SpellRows, labels_of, lines_of, size_words_of}
use Rattle.ele_outlook.specs.Told.{AsksMuch, IsForecastText, IsOver, line_form}
use Rattle.ele_outlook.specs.Unplaced.{is_unplaced}
use Rattle.ele_rule_parts.specs.declared.row.Row.{Row}
use Rattle.ele_outlook.specs.declared.options.ForecastOptions.{ForecastOptions}
use Rattle.ele_outlook.specs.declared.fault.ForecastFault.{ForecastFault}
use Rattle.ele_outlook.specs.declared.fault.ForecastFault.TheVariants.{ReadFault, BadInput, TooLong, WriteFault, NoMemory}

-- the text is a forecast of the closings in the input
pub record IsToldOf (options : ForecastOptions) (input text : List ℕ) : Type 0 where
  pub rows : List Row
  pub spell : SpellRows (line_form options) (lines_of input) rows
  pub told : IsForecastText options rows (labels_of (line_form options) (lines_of input)) (size_words_of (line_form options) (lines_of input)) text

-- the forecast was written, all of it or a prefix, or nothing was; memory can be refused only if the input has bytes,
-- a moment is given, or there is a policy or a rule
abbrev pub FailsToTell : ForecastOptions → List ℕ → Option (List ℕ) → Option (List ℕ) → ForecastFault → Type 0
FailsToTell options given old new (BadInput number why) = IsFirstBad (line_form options) given number why × Keeps old new
FailsToTell options given old new TooLong = (rows : List Row) × SpellRows (line_form options) (lines_of given) rows × IsOver options rows × Keeps old new
FailsToTell options given old new WriteFault = (text : List ℕ) × IsToldOf options given text × AppendsFront old new text
FailsToTell options given old new ReadFault = Keeps old new
FailsToTell options given old new NoMemory = ((given ≢ []) ⊎ AsksMuch options) × Keeps old new

abbrev pub TellsForecast : {A : Type 0} → ForecastOptions → List ℕ → Option (List ℕ) → Option (List ℕ) → Result A ForecastFault → Type 0
TellsForecast options given old new (Ok _) = (text : List ℕ) × IsToldOf options given text × Appends old new text
TellsForecast options given old new (Err fault) = FailsToTell options given old new fault

-- bytes were read, all of them unless the reader failed or memory was refused, and their forecast was written; the result is whether
-- times were read as UTC for want of a clock
pub record Foretells (options : ForecastOptions) (input rest old new : Option (List ℕ)) (result : Result Bool ForecastFault) : Type 0 where
  pub given : List ℕ
  pub taken : Consumes input rest given
  pub at_end : result ≢ Err ReadFault → result ≢ Err NoMemory → IsAtEnd rest
  pub told : TellsForecast options given old new result
  pub unplaced : IfOk result (λ unplaced. unplaced ≡ is_unplaced options given)
