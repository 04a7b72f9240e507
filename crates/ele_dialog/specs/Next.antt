-- One line of a dialog. No public clause cites this module.
use Rattle.std.specs.Prelude.{◌≡◌, ◌≢◌, ◌⊎◌, ℕ, Bool, true, false, List, [], ◌∷◌, ◌++◌, Option, Result, Ok, Err}
use Rattle.std.specs.Io.KnownBytes.{Appends, Consumes, IsAtEnd}
use Rattle.ele_dialog.specs.Answer.{IsAnswered, IsUnanswered}
use Rattle.ele_dialog.specs.Dialog.{EndsBy, cut_text}
use Rattle.ele_history.specs.Past.{Past}
use Rattle.ele_output.specs.Front.{AppendsFront}
use Rattle.ele_output.specs.Outlet.{IsHandedOver, Outlet, Outputs, Puts}
use Rattle.ele_run_options.specs.declared.fault.ShellFault.{ShellFault}
use Rattle.ele_run_options.specs.declared.fault.ShellFault.TheVariants.{ReadFault, WriteFault, TooManyLines, NoMemory}
use Rattle.ele_runs.specs.Lines.{IsUnbroken}

-- all was handed over, or the writer failed
abbrev pub HandsOn : Bool → Outlet → Outlet → Result Bool ShellFault → Type 0
HandsOn goes_on old new (Ok more) = (more ≡ goes_on) × Outputs old new [] × IsHandedOver new
HandsOn goes_on old new (Err WriteFault) = Outputs old new []
HandsOn goes_on old new (Err ReadFault) = ⊥
HandsOn goes_on old new (Err NoMemory) = ⊥
HandsOn goes_on old new (Err TooManyLines) = ⊥

-- a text that answers the line went out
pub record Answered (number : ℕ) (before : Past) (line : List ℕ) (after : Past) (old new : Outlet) : Type 0 where
  pub text : List ℕ
  pub is : IsAnswered number before line text after
  pub put : Outputs old new text

-- a whole line was answered; or there was no memory for the answer, and nothing is printed
abbrev pub AnswersWhole : ℕ → Past → List ℕ → Past → Outlet → Outlet → Result Bool ShellFault → Type 0
AnswersWhole number before line after old new (Ok more) = (more ≡ true) × Answered number before line after old new × IsHandedOver new
AnswersWhole number before line after old new (Err WriteFault) = Answered number before line after old new
AnswersWhole number before line after old new (Err NoMemory) = IsUnanswered before line after × Puts old new []
AnswersWhole number before line after old new (Err ReadFault) = ⊥
AnswersWhole number before line after old new (Err TooManyLines) = ⊥

-- a last line was answered
abbrev pub AnswersLast : List ℕ → Outlet → Outlet → Result Bool ShellFault → Type 0
AnswersLast line old new (Ok more) = (more ≡ false) × Outputs old new (cut_text line) × IsHandedOver new
AnswersLast line old new (Err WriteFault) = Outputs old new (cut_text line)
AnswersLast line old new (Err NoMemory) = ⊥
AnswersLast line old new (Err ReadFault) = ⊥
AnswersLast line old new (Err TooManyLines) = ⊥

-- a whole line was read and answered, up to what was handed over
pub record NextWhole (number : ℕ) (before : Past) (input rest : Option (List ℕ)) (after : Past) (old new : Outlet) : Type 0 where
  pub line : List ℕ
  pub whole : IsUnbroken line
  pub taken : Consumes input rest (line ++ 10 ∷ [])
  pub answered : Answered number before line after old new

-- a last line was read and answered
pub record NextLast (input rest : Option (List ℕ)) (old new : Outlet) : Type 0 where
  pub line : List ℕ
  pub whole : IsUnbroken line
  pub taken : Consumes input rest line
  pub at_end : IsAtEnd rest
  pub put : Outputs old new (cut_text line)

-- there was no memory for the bytes of a line
pub record NextUnread (input rest : Option (List ℕ)) (old new : Outlet) : Type 0 where
  pub part : List ℕ
  pub some : part ≢ []
  pub whole : IsUnbroken part
  pub taken : Consumes input rest part
  pub same : new ≡ old

-- a whole line was read, and there was no memory for its answer
pub record NextUnanswered (before : Past) (input rest : Option (List ℕ)) (after : Past) (old new : Outlet) : Type 0 where
  pub line : List ℕ
  pub whole : IsUnbroken line
  pub taken : Consumes input rest (line ++ 10 ∷ [])
  pub unanswered : IsUnanswered before line after
  pub put : Puts old new []

-- the next line was read and answered; or the reader failed in it, or the writer, or memory was refused
abbrev pub AnswersNext : ℕ → Past → Option (List ℕ) → Option (List ℕ) → Past → Outlet → Outlet → Result Bool ShellFault → Type 0
AnswersNext number before input rest after old new (Ok true) = NextWhole number before input rest after old new × IsHandedOver new
AnswersNext number before input rest after old new (Ok false) = NextLast input rest old new × IsHandedOver new
AnswersNext number before input rest after old new (Err ReadFault) = (part : List ℕ) × IsUnbroken part × Consumes input rest part × (new ≡ old)
AnswersNext number before input rest after old new (Err WriteFault) = NextWhole number before input rest after old new ⊎ NextLast input rest old new
AnswersNext number before input rest after old new (Err NoMemory) = NextUnread input rest old new ⊎ NextUnanswered before input rest after old new
AnswersNext number before input rest after old new (Err TooManyLines) = ⊥

-- how it ended, over a printer, whose writer is still the same
abbrev pub EndsPrinted : {A : Type 0} → Past → Option (List ℕ) → Option (List ℕ) → Outlet → Outlet → Result A ShellFault → Type 0
EndsPrinted before input rest old new ended =
    EndsBy (λ text. (new.writer ≡ old.writer) × Appends old.known new.known text) (λ text. (new.writer ≡ old.writer) × AppendsFront old.known new.known text) before input rest ended
