-- How a run ends: the input that it read, the text that it made and how much of that it wrote. `notes` is the printer of reasons
-- then.
use Rattle.std.specs.Prelude.{◌≡◌, ◌≢◌, ℕ, ◌+◌, ◌≤◌, Bool, true, false, List, [], ◌∷◌, ◌++◌, length, Option, Some, None, Result, Ok, Err, ◌⊎◌}
use Rattle.std.specs.List.{AllByRecursion}
use Rattle.std.specs.Io.KnownBytes.{Appends, Consumes, Keeps, IsAtEnd}
use Rattle.ele_output.specs.Front.{AppendsFront}
use Rattle.ele_output.specs.Outlet.{Outlet, Outputs}
use Rattle.ele_runs.specs.declared.end.EndLine.{EndLine}
use Rattle.ele_runs.specs.declared.end.RunEnd.{RunEnd}
use Rattle.ele_run_options.specs.declared.fault.ShellFault.{ShellFault}
use Rattle.ele_runs.specs.declared.tally.Tally.{Tally}
use Rattle.ele_run_options.specs.declared.fault.ShellFault.TheVariants.{ReadFault, WriteFault, TooManyLines, NoMemory}
use Rattle.ele_runs.specs.Bounds.{most_lines, most_bytes}
use Rattle.ele_history.specs.Past.{Past}
use Rattle.ele_run_options.specs.RunOptions.{plain}
use Rattle.ele_runs.specs.RunState.{RunState, begun}
use Rattle.ele_runs.specs.LineLength.{line_unless_long}
use Rattle.ele_runs.specs.Lines.{IsUnbroken, AreLines, whole_lines, line_count}
use Rattle.ele_runs.specs.Note.{cut_note}
use Rattle.ele_runs.specs.Tally.{cut_tallied}
use Rattle.ele_runs.specs.Told.{AreTold, cut_told}

-- a text of this kind was written
pub record Writes (Told : List ℕ → Type 0) (old new : Option (List ℕ)) : Type 0 where
  pub text : List ℕ
  pub told : Told text
  pub written : Appends old new text

-- or the beginning of one
pub record WritesFront (Told : List ℕ → Type 0) (old new : Option (List ℕ)) : Type 0 where
  pub text : List ℕ
  pub told : Told text
  pub written : AppendsFront old new text

-- whole lines were read, and bytes of one more, all within the bounds; the text answers the whole lines, and none of them ended
-- the run
pub record IsToldOf (start : RunState) (given : List ℕ) (lines : List (List ℕ)) (part text : List ℕ) (state : RunState) : Type 0 where
  pub are : AreLines given lines part
  pub few_lines : length lines ≤ most_lines
  pub few_bytes : length given ≤ most_bytes
  pub told : AreTold start lines text state
  pub goes_on : state.ended ≡ false

-- all input was read, n lines within the bounds; the text answers them, and none of them ended the run
pub record ToldToTheEnd (start : RunState) (n : ℕ) (input rest : Option (List ℕ)) (notes : Outlet) (text : List ℕ) : Type 0 where
  pub given : List ℕ
  pub lines : List (List ℕ)
  pub last : List ℕ
  pub blocks : List ℕ
  pub state : RunState
  pub taken : Consumes input rest given
  pub at_end : IsAtEnd rest
  pub is : IsToldOf start given lines last blocks state
  pub count : n ≡ line_count lines last
  pub few : n ≤ most_lines
  pub uncut : start.options.strict ≡ true → last ≡ []
  pub text_is : text ≡ blocks ++ cut_told state (line_unless_long last)
  pub noted : Outputs state.notes notes (cut_note state (line_unless_long last))

-- the whole line after these ended the run, however much of the input was read after it
pub record EndsWhole (start : RunState) (given : List ℕ) (lines : List (List ℕ)) (line : List ℕ) (notes : Outlet) (text : List ℕ) : Type 0 where
  pub behind : List ℕ
  pub state : RunState
  pub parts : given ≡ whole_lines (lines ++ line ∷ []) ++ behind
  pub whole : AllByRecursion IsUnbroken (lines ++ line ∷ [])
  pub told : AreTold start (lines ++ line ∷ []) text state
  pub ended : state.ended ≡ true
  pub noted : notes ≡ state.notes

-- a last line without its line feed ended the run; it is never run itself
pub record EndsCut (start : RunState) (given : List ℕ) (rest : Option (List ℕ)) (lines : List (List ℕ)) (line : List ℕ) (notes : Outlet) (text : List ℕ) : Type 0 where
  pub blocks : List ℕ
  pub state : RunState
  pub at_end : IsAtEnd rest
  pub some : line ≢ []
  pub is : IsToldOf start given lines line blocks state
  pub text_is : text ≡ blocks ++ cut_told state (line_unless_long line)
  pub noted : Outputs state.notes notes (cut_note state (line_unless_long line))

-- the line that ended the run is a last one without its line feed, or a whole one
abbrev pub EndsAtLine : Bool → RunState → List ℕ → Option (List ℕ) → List (List ℕ) → List ℕ → Outlet → List ℕ → Type 0
EndsAtLine true start given rest lines line notes text = EndsCut start given rest lines line notes text
EndsAtLine false start given rest lines line notes text = EndsWhole start given lines line notes text

-- a strict run ended at its n-th line, and the text answers the lines up to that one
pub record ToldToAnEnd (start : RunState) (n : ℕ) (end : EndLine) (input rest : Option (List ℕ)) (notes : Outlet) (text : List ℕ) : Type 0 where
  pub given : List ℕ
  pub lines : List (List ℕ)
  pub line : List ℕ
  pub strict : start.options.strict ≡ true
  pub taken : Consumes input rest given
  pub count : n ≡ length lines + 1
  pub keeps : end.line ≡ line_unless_long line
  pub by : EndsAtLine end.is_cut start given rest lines line notes text

-- the reader failed after these bytes
pub record ToldToAReadFault (start : RunState) (input rest : Option (List ℕ)) (notes : Outlet) (text : List ℕ) : Type 0 where
  pub given : List ℕ
  pub lines : List (List ℕ)
  pub part : List ℕ
  pub state : RunState
  pub taken : Consumes input rest given
  pub is : IsToldOf start given lines part text state
  pub noted : notes ≡ state.notes

-- these lines, and bytes of one more, are as much as a script may have
abbrev pub AreMost : List ℕ → List (List ℕ) → List ℕ → Type 0
AreMost given lines part = ((length lines ≡ most_lines) × (part ≡ [])) ⊎ (length given ≡ most_bytes)

-- one byte more was read than a script may have
pub record ToldPastABound (start : RunState) (input rest : Option (List ℕ)) (notes : Outlet) (text : List ℕ) : Type 0 where
  pub given : List ℕ
  pub byte : ℕ
  pub lines : List (List ℕ)
  pub part : List ℕ
  pub state : RunState
  pub taken : Consumes input rest (given ++ byte ∷ [])
  pub is : IsToldOf start given lines part text state
  pub most : AreMost given lines part
  pub noted : notes ≡ state.notes

-- the text answers whole lines; if the rest is a last line without its line feed, the answer to that may follow
abbrev pub MayTellRest : RunState → List ℕ → List ℕ → Outlet → List ℕ → Type 0
MayTellRest state blocks rest notes text =
    ((text ≡ blocks) × (notes ≡ state.notes))
    ⊎ (IsUnbroken rest × (text ≡ blocks ++ cut_told state (line_unless_long rest)) × Outputs state.notes notes (cut_note state (line_unless_long rest)))

-- the input begins with these whole lines, and the text answers them
pub record ToldToAWriteFault (start : RunState) (input : Option (List ℕ)) (notes : Outlet) (text : List ℕ) : Type 0 where
  pub lines : List (List ℕ)
  pub rest : List ℕ
  pub blocks : List ℕ
  pub state : RunState
  pub input_is : Keeps input (Some (whole_lines lines ++ rest))
  pub whole : AllByRecursion IsUnbroken lines
  pub told : AreTold start lines blocks state
  pub reaches : MayTellRest state blocks rest notes text

-- the tally counts the lines that were answered, and a last line without its line feed
abbrev pub IsTallyOf : RunState → Option (List ℕ) → Tally → Type 0
IsTallyOf run_state last tally = tally ≡ cut_tallied run_state.tally (run_state.number + 1) last

-- the text of a run that no fault ended: it answers all lines, which are tallied, or those up to the one that ended the run
abbrev pub HasTold : RunState → Option (List ℕ) → Option (List ℕ) → Outlet → ℕ → Option EndLine → Tally → List ℕ → Type 0
HasTold start input rest notes n None tally text =
    (told : ToldToTheEnd start n input rest notes text) × IsTallyOf told.state (line_unless_long told.last) tally
HasTold start input rest notes n (Some end) tally text = ToldToAnEnd start n end input rest notes text

-- what a run did that a fault ended; without memory it read and wrote nothing
abbrev pub HasFailed : RunState → Option (List ℕ) → Option (List ℕ) → Option (List ℕ) → Option (List ℕ) → Outlet → ShellFault → Type 0
HasFailed start input rest old new notes ReadFault = Writes (ToldToAReadFault start input rest notes) old new
HasFailed start input rest old new notes TooManyLines = Writes (ToldPastABound start input rest notes) old new
HasFailed start input rest old new notes WriteFault = WritesFront (ToldToAWriteFault start input notes) old new
HasFailed start input rest old new notes NoMemory = Keeps input rest × Keeps old new × (notes ≡ start.notes)

-- what a run did, by how it ended
abbrev pub Tells : RunState → Option (List ℕ) → Option (List ℕ) → Option (List ℕ) → Option (List ℕ) → Outlet → Result RunEnd ShellFault → Type 0
Tells start input rest old new notes (Ok ran) = Writes (HasTold start input rest notes ran.lines ran.ended_by ran.tally) old new
Tells start input rest old new notes (Err fault) = HasFailed start input rest old new notes fault

-- what a run without options did, at whatever printer of reasons
abbrev pub ToldPlain : Past → ℕ → Option (List ℕ) → Option (List ℕ) → List ℕ → Type 0
ToldPlain past n input rest text = (before after : Outlet) × ToldToTheEnd (begun plain past before) n input rest after text

abbrev pub HasFailedPlain : Past → Option (List ℕ) → Option (List ℕ) → Option (List ℕ) → Option (List ℕ) → ShellFault → Type 0
HasFailedPlain past input rest old new fault = (before after : Outlet) × HasFailed (begun plain past before) input rest old new after fault
