-- The parts of reading and writing. No public clause cites this module.
use Rattle.std.specs.Prelude.{◌≡◌, ◌≢◌, ◌≤◌, ℕ, Bool, true, map, ◌+◌, List, [], ◌∷◌, ◌++◌, decimal, length, Option, Result, Ok, Err, ◌⊎◌}
use Rattle.std.specs.List.{AllZip}
use Rattle.std.specs.Io.KnownBytes.{Appends, Consumes, Keeps}
use Rattle.ele_lists.specs.Lists.{AllLater}
use Rattle.ele_output.specs.Front.{AppendsFront}
use Rattle.ele_forecast_text.specs.Details.{words_if}
use Rattle.ele_forecast_text.specs.Plan.{versions_of}
use Rattle.ele_forecast_text.specs.declared.plan.Plan.{Plan}
use Rattle.ele_svg.specs.Drawing.{has_curves}
use Rattle.ele_forecast_text.specs.declared.details.Details.{Details}
use Rattle.ele_outlook.specs.Against.{AreCompared, compares}
use Rattle.ele_outlook.specs.Parts.{stayings_of, texts_of}
use Rattle.ele_outlook.specs.Suggested.{IsSuggested, suggests}
use Rattle.ele_outlook.specs.Input.{HasFields, HasSize, IsBad, IsFirstBad, SpellRows, SpellsLine, closings_of, label_of, labels_of, lines_of, size_words_of}
use Rattle.ele_outlook.specs.Told.{AreDetails, AreDrawn, AreFreed, AreRows, AsksMuch, IsForecastText, IsOver, amount_moments, clock_of, has_removals, line_form, listed_numbers}
use Rattle.ele_rule_parts.specs.declared.row.Row.{Row}
use Rattle.ele_rule_forecast.specs.Judged.{AreJudged}
use Rattle.ele_space.specs.Amounts.{AreAmountsAt}
use Rattle.ele_outlook.specs.declared.found.Found.{Found}
use Rattle.ele_outlook.specs.declared.input.ReadLines.{ReadLines}
use Rattle.ele_outlook.specs.declared.options.ForecastOptions.{ForecastOptions}
use Rattle.ele_outlook.specs.declared.options.LineForm.{LineForm}
use Rattle.ele_outlook.specs.declared.fault.ForecastFault.{ForecastFault}
use Rattle.ele_outlook.specs.declared.fault.ForecastFault.TheVariants.{ReadFault, BadInput, TooLong, WriteFault, NoMemory}

-- bytes were read, at least one if memory for them was refused
abbrev pub GivesUp : Option (List ℕ) → Option (List ℕ) → ForecastFault → Type 0
GivesUp input rest ReadFault = (given : List ℕ) × Consumes input rest given
GivesUp input rest NoMemory = (given : List ℕ) × (given ≢ []) × Consumes input rest given
GivesUp input rest (BadInput number why) = ⊥
GivesUp input rest TooLong = ⊥
GivesUp input rest WriteFault = ⊥

-- the size of a line: the number that its word spells, if lines have sizes
pub record IsSize (form : LineForm) (line : List ℕ) (size : ℕ) : Type 0 where
  pub has : HasSize form line
  pub word : size_words_of form (line ∷ []) ≡ words_if form.columns.sizes (decimal size ∷ [])

-- the size and the label of a line, which has all that it must have
pub record AreFields (form : LineForm) (line : List ℕ) (size : ℕ) (label : List ℕ) : Type 0 where
  pub has : HasFields form line
  pub word : size_words_of form (line ∷ []) ≡ words_if form.columns.sizes (decimal size ∷ [])
  pub label_is : label ≡ label_of form line

-- some lines of the input were read, whose rows, closings, labels and sizes these are, and the others are left
pub record HaveRead (form : LineForm) (input rest : List ℕ) (read : ReadLines) : Type 0 where
  pub done : List (List ℕ)
  pub lines : lines_of input ≡ done ++ lines_of rest
  pub spelled : AllZip (SpellsLine form) done read.rows.items
  pub closings : read.closings ≡ closings_of read.rows.items
  pub detailed : AreDetails form.columns (labels_of form done) (size_words_of form done) read.details

-- memory was refused
abbrev pub IsMemory : ForecastFault → Type 0
IsMemory NoMemory = Unit {0}
IsMemory (BadInput number why) = ⊥
IsMemory ReadFault = ⊥
IsMemory TooLong = ⊥
IsMemory WriteFault = ⊥

-- a word was added to others, if lines have it
abbrev pub AddsWord : {A : Type 0} → Bool → List ℕ → List (List ℕ) → List (List ℕ) → Result A ForecastFault → Type 0
AddsWord has word old new (Ok _) = new ≡ old ++ words_if has (word ∷ [])
AddsWord has word old new (Err fault) = IsMemory fault

-- a row was added to others
abbrev pub AddsRow : {A : Type 0} → Row → List Row → List Row → Result A ForecastFault → Type 0
AddsRow row old new (Ok _) = new ≡ old ++ row ∷ []
AddsRow row old new (Err fault) = IsMemory fault

-- the label and the size of a line were added to those of the lines before
pub record AreAdded (size : ℕ) (label : List ℕ) (old new : Details) : Type 0 where
  pub columns : new.columns ≡ old.columns
  pub labels : texts_of new.labels.items ≡ texts_of old.labels.items ++ words_if old.columns.labels (label ∷ [])
  pub sizes : map decimal new.sizes.items ≡ map decimal old.sizes.items ++ words_if old.columns.sizes (decimal size ∷ [])

abbrev pub AddsDetails : {A : Type 0} → ℕ → List ℕ → Details → Details → Result A ForecastFault → Type 0
AddsDetails size label old new (Ok _) = AreAdded size label old new
AddsDetails size label old new (Err fault) = IsMemory fault

-- the row, the size and the label of a line were added to those of the lines before
pub record AreWith (row : Row) (size : ℕ) (label : List ℕ) (old new : ReadLines) : Type 0 where
  pub rows : new.rows.items ≡ old.rows.items ++ row ∷ []
  pub closings : new.closings ≡ old.closings
  pub added : AreAdded size label old.details new.details

abbrev pub AddsFields : {A : Type 0} → Row → ℕ → List ℕ → ReadLines → ReadLines → Result A ForecastFault → Type 0
AddsFields row size label old new (Ok _) = AreWith row size label old new
AddsFields row size label old new (Err fault) = IsMemory fault

-- the line after those of these closings is bad, or memory was refused
abbrev pub FailsToAdd : LineForm → List ℕ → List ℕ → ForecastFault → Type 0
FailsToAdd form line closings (BadInput number why) = (number ≡ length closings + 1) × AllLater ◌≤◌ closings × IsBad form closings line why
FailsToAdd form line closings NoMemory = Unit {0}
FailsToAdd form line closings ReadFault = ⊥
FailsToAdd form line closings TooLong = ⊥
FailsToAdd form line closings WriteFault = ⊥

-- what a line says was added to what the lines before say
pub record IsWithLine (form : LineForm) (line : List ℕ) (old new : ReadLines) : Type 0 where
  pub row : Row
  pub spells : SpellsLine form line row
  pub rows : new.rows.items ≡ old.rows.items ++ row ∷ []
  pub closings : new.closings ≡ old.closings ++ row.moment ∷ []
  pub size : ℕ
  pub label : List ℕ
  pub fields : AreFields form line size label
  pub added : AreAdded size label old.details new.details

abbrev pub AddsLine : {A : Type 0} → LineForm → List ℕ → ReadLines → ReadLines → Result A ForecastFault → Type 0
AddsLine form line old new (Ok _) = IsWithLine form line old new
AddsLine form line old new (Err fault) = FailsToAdd form line old.closings fault

-- all lines were read
pub record AreRead (form : LineForm) (input : List ℕ) (read : ReadLines) : Type 0 where
  pub spell : SpellRows form (lines_of input) read.rows.items
  pub closings : read.closings ≡ closings_of read.rows.items
  pub detailed : AreDetails form.columns (labels_of form (lines_of input)) (size_words_of form (lines_of input)) read.details

-- the rows, closings, labels and sizes of all lines, or the first bad line; memory can be refused only if there is a line
abbrev pub ReadsLines : LineForm → List ℕ → Result ReadLines ForecastFault → Type 0
ReadsLines form input (Ok read) = AreRead form input read
ReadsLines form input (Err (BadInput number why)) = IsFirstBad form input number why
ReadsLines form input (Err NoMemory) = input ≢ []
ReadsLines form input (Err ReadFault) = ⊥
ReadsLines form input (Err TooLong) = ⊥
ReadsLines form input (Err WriteFault) = ⊥

-- what the form shows of versions beside their plans, by what was read
pub record IsFoundIn (options : ForecastOptions) (read : ReadLines) (plans : List Plan) (found : Found) : Type 0 where
  pub judged : AreJudged options.rules.items read.rows.items options.moments.items found.judged.items
  pub listed : found.listed.items ≡ listed_numbers options.form plans
  pub counts : AreRows options.form read.closings plans found.counts.items
  pub amounts : AreAmountsAt (amount_moments options.form options.sizes plans found.counts.items) read.closings read.details.sizes.items plans found.amounts.items
  pub bytes : AreDrawn options.form found.amounts.items found.bytes.items
  pub removals : AreFreed (has_removals options) plans found.removals.items
  pub compared : AreCompared (compares options.form) read.details.labels.items plans found.judged.items options.others.items found.compared
  pub suggested : IsSuggested (suggests options.form) options.keep (clock_of options) read.details.sizes.items read.closings options.moments.items found.suggested

-- there are rules, moments or plans, a plan with moments, versions or curves, or a policy is suggested
abbrev pub MayLack : ForecastOptions → List Plan → Type 0
MayLack options plans = (options.rules.items ≢ []) ⊎ (options.moments.items ≢ []) ⊎ (stayings_of plans ≢ []) ⊎ (versions_of plans ≢ []) ⊎ (has_curves plans ≡ true) ⊎ (plans ≢ []) ⊎ (suggests options.form ≡ true)

-- what was read has the fields that the options want, and its closings are those of its rows
pub record IsOfForm (options : ForecastOptions) (read : ReadLines) : Type 0 where
  pub columns : read.details.columns ≡ (line_form options).columns
  pub closings : read.closings ≡ closings_of read.rows.items

-- the forecast of what was read was written
abbrev pub TellsRead : {A : Type 0} → ForecastOptions → ReadLines → Option (List ℕ) → Option (List ℕ) → Result A ForecastFault → Type 0
TellsRead options read old new (Ok _) =
    (text : List ℕ) × IsForecastText options read.rows.items (texts_of read.details.labels.items) (map decimal read.details.sizes.items) text × Appends old new text
TellsRead options read old new (Err WriteFault) =
    (text : List ℕ) × IsForecastText options read.rows.items (texts_of read.details.labels.items) (map decimal read.details.sizes.items) text × AppendsFront old new text
TellsRead options read old new (Err TooLong) = IsOver options read.rows.items × Keeps old new
TellsRead options read old new (Err NoMemory) = ((read.closings ≢ []) ⊎ AsksMuch options) × Keeps old new
TellsRead options read old new (Err (BadInput number why)) = ⊥
TellsRead options read old new (Err ReadFault) = ⊥
