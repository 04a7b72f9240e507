-- The lines that end in a piece of the input. No public clause cites this module.
use Rattle.std.specs.Prelude.{◌≡◌, ℕ, ◌+◌, ◌≤◌, Bool, true, false, List, [], ◌∷◌, ◌++◌, length, Option, Result, Ok, Err, ◌⊎◌}
use Rattle.std.specs.List.{AllByRecursion}
use Rattle.ele_output.specs.declared.fault.WriteFault.{WriteFault}
use Rattle.ele_output.specs.Outlet.{Outlet, Puts}
use Rattle.ele_runs.specs.RunState.{RunState}
use Rattle.ele_runs.specs.LineLength.{line_unless_long}
use Rattle.ele_runs.specs.Lines.{IsUnbroken, AreLines, whole_lines}
use Rattle.ele_runs.specs.Told.{AreTold}

-- the lines that end in the piece were answered, and the bytes after them are kept; the first line may begin before the piece
pub record AnswersAll (before after : RunState) (part piece : List ℕ) (buffer : Option (List ℕ)) (old new : Outlet) : Type 0 where
  pub lines : List (List ℕ)
  pub last : List ℕ
  pub text : List ℕ
  pub are : AreLines (part ++ piece) lines last
  pub counted : before.number + length lines ≡ after.number
  pub few : (length lines + length last ≤ length piece) ⊎ (lines ≡ [])
  pub keeps : buffer ≡ line_unless_long last
  pub goes_on : after.ended ≡ false
  pub told : AreTold before lines text after
  pub put : Puts old new text

-- the last of these lines ended the run, and is kept
pub record AnswersLast (before after : RunState) (part piece : List ℕ) (buffer : Option (List ℕ)) (old new : Outlet) : Type 0 where
  pub lines : List (List ℕ)
  pub line : List ℕ
  pub rest : List ℕ
  pub text : List ℕ
  pub parts : part ++ piece ≡ whole_lines (lines ++ line ∷ []) ++ rest
  pub whole : AllByRecursion IsUnbroken (lines ++ line ∷ [])
  pub counted : before.number + (length lines + 1) ≡ after.number
  pub keeps : buffer ≡ line_unless_long line
  pub ended : after.ended ≡ true
  pub told : AreTold before (lines ++ line ∷ []) text after
  pub put : Puts old new text

-- the writer failed in a block of these lines, or in earlier output
pub record AnswersSome (before after : RunState) (part piece : List ℕ) (old new : Outlet) : Type 0 where
  pub lines : List (List ℕ)
  pub rest : List ℕ
  pub text : List ℕ
  pub parts : part ++ piece ≡ whole_lines lines ++ rest
  pub whole : AllByRecursion IsUnbroken lines
  pub told : AreTold before lines text after
  pub put : Puts old new text

-- whether the run was ended by them
abbrev pub AnswersBy : Bool → RunState → RunState → List ℕ → List ℕ → Option (List ℕ) → Outlet → Outlet → Type 0
AnswersBy false before after part piece buffer old new = AnswersAll before after part piece buffer old new
AnswersBy true before after part piece buffer old new = AnswersLast before after part piece buffer old new

abbrev pub Answers : {A : Type 0} → RunState → RunState → List ℕ → List ℕ → Option (List ℕ) → Outlet → Outlet → Result A WriteFault → Type 0
Answers before after part piece buffer old new (Ok x) = AnswersBy after.ended before after part piece buffer old new
Answers before after part piece buffer old new (Err fault) = AnswersSome before after part piece old new

-- for any bytes that were kept of a line that began before the piece
abbrev pub AnswersPiece : {A : Type 0} → RunState → RunState → Option (List ℕ) → List ℕ → Option (List ℕ) → Outlet → Outlet → Result A WriteFault → Type 0
AnswersPiece before after began piece buffer old new result =
    (part : List ℕ) → IsUnbroken part → began ≡ line_unless_long part → Answers before after part piece buffer old new result
