-- A run whose lines are typed.
use Rattle.std.specs.Prelude.{◌≡◌, ◌≢◌, ◌⊎◌, ℕ, ◌+◌, List, [], ◌∷◌, ◌++◌, codes, Option, Result, Ok, Err}
use Rattle.std.specs.List.{AllByRecursion}
use Rattle.std.specs.Io.KnownBytes.{Appends, Consumes, IsAtEnd, Keeps}
use Rattle.ele_dialog.specs.Answer.{IsAnswered, IsUnanswered}
use Rattle.ele_history.specs.Past.{Past}
use Rattle.ele_output.specs.Front.{AppendsFront}
use Rattle.ele_run_options.specs.declared.fault.ShellFault.{ShellFault}
use Rattle.ele_run_options.specs.declared.fault.ShellFault.TheVariants.{ReadFault, WriteFault, TooManyLines, NoMemory}
use Rattle.ele_runs.specs.Lines.{IsUnbroken, whole_lines}

-- the text answers these lines, one after another, from the line after so many on
abbrev pub AreAnswered : ℕ → Past → List (List ℕ) → List ℕ → Past → Type 0
AreAnswered count before [] text after = (text ≡ []) × (after ≡ before)
AreAnswered count before (line ∷ lines) text after =
    (first more : List ℕ) × (between : Past) × IsAnswered (count + 1) before line first between × AreAnswered (count + 1) between lines more after × (text ≡ first ++ more)

-- what is printed of a last line without its line feed
abbrev pub cut_text : List ℕ → List ℕ
cut_text [] = []
cut_text (byte ∷ bytes) = codes "elephant: the last line has no line feed, so it isn't run\n"

-- these whole lines were read, and the bytes of one more; the text answers the whole ones
pub record IsTyped (before : Past) (input rest : Option (List ℕ)) (part text : List ℕ) : Type 0 where
  pub lines : List (List ℕ)
  pub after : Past
  pub whole : AllByRecursion IsUnbroken lines
  pub cut : IsUnbroken part
  pub taken : Consumes input rest (whole_lines lines ++ part)
  pub answered : AreAnswered 0 before lines text after

-- memory was refused: for the bytes of a line that is being read; or for the text that answers a whole line, of which nothing is printed.
-- The text answers the lines before
pub data IsStopped (before : Past) (input rest : Option (List ℕ)) (text : List ℕ) : Type 0 where
  reading : (part : List ℕ) → part ≢ [] → IsTyped before input rest part text → IsStopped before input rest text
  answering : (at_feed : Option (List ℕ)) (line : List ℕ) (after : Past) → (typed : IsTyped before input at_feed line text) → Consumes at_feed rest (10 ∷ [])
      → IsUnanswered typed.after line after → IsStopped before input rest text

-- how it ended, by what was done with the text that it made. To the end: all input was read, and answered. The reader failed: the
-- whole lines before are answered, as where memory was refused. The writer failed: it has a prefix
abbrev pub EndsBy : {A : Type 0} → (List ℕ → Type 0) → (List ℕ → Type 0) → Past → Option (List ℕ) → Option (List ℕ) → Result A ShellFault → Type 0
EndsBy Whole Front before input rest (Ok _) = (part text : List ℕ) × IsTyped before input rest part text × IsAtEnd rest × Whole (text ++ cut_text part)
EndsBy Whole Front before input rest (Err ReadFault) = (part text : List ℕ) × IsTyped before input rest part text × Whole text
EndsBy Whole Front before input rest (Err WriteFault) = (part text : List ℕ) × IsTyped before input rest part text × Front (text ++ cut_text part)
EndsBy Whole Front before input rest (Err NoMemory) = (text : List ℕ) × IsStopped before input rest text × Whole text
EndsBy Whole Front before input rest (Err TooManyLines) = ⊥

-- with what the writer has then
abbrev pub EndsTyping : {A : Type 0} → Past → Option (List ℕ) → Option (List ℕ) → Option (List ℕ) → Option (List ℕ) → Result A ShellFault → Type 0
EndsTyping before input rest old new ended = EndsBy (Appends old new) (AppendsFront old new) before input rest ended

-- memory for the start was refused: nothing was read, and nothing written
abbrev pub IsUnbegun : {A : Type 0} → Option (List ℕ) → Option (List ℕ) → Option (List ℕ) → Option (List ℕ) → Result A ShellFault → Type 0
IsUnbegun input rest old new (Err NoMemory) = Keeps input rest × Keeps old new
IsUnbegun input rest old new (Err ReadFault) = ⊥
IsUnbegun input rest old new (Err WriteFault) = ⊥
IsUnbegun input rest old new (Err TooManyLines) = ⊥
IsUnbegun input rest old new (Ok _) = ⊥

-- how it ended, from the start on
abbrev pub EndsDialog : {A : Type 0} → Past → Option (List ℕ) → Option (List ℕ) → Option (List ℕ) → Option (List ℕ) → Result A ShellFault → Type 0
EndsDialog before input rest old new ended = IsUnbegun input rest old new ended ⊎ EndsTyping before input rest old new ended
