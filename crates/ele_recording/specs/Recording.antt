-- The history that the lines of a script make.
use Rattle.std.specs.Prelude.{◌≡◌, ◌≢◌, ℕ, Bool, true, false, List, [], ◌∷◌, ◌++◌, Result, Ok, Err}
use Rattle.std.specs.List.{AllByRecursion}
use Rattle.ele_evidence.specs.Verdict.{line_after}
use Rattle.ele_history.specs.Past.{Past}
use Rattle.ele_model.specs.declared.pass.PassEnd.TheVariants as pass
use Rattle.ele_recording.specs.declared.recording.Unrecorded.{Unrecorded}
use Rattle.ele_recording.specs.declared.recording.Unrecorded.TheVariants.{Cut, Line, Trimmed}
use Rattle.ele_run_options.specs.declared.options.RunOptions.{RunOptions}
use Rattle.ele_runs.specs.Kept.{Recorded}
use Rattle.ele_runs.specs.LineLength.{line_unless_long}
use Rattle.ele_runs.specs.Lines.{IsUnbroken, whole_lines}
use Rattle.ele_runs.specs.Said.{HearsKept}
use Rattle.ele_runs.specs.declared.said.Said.{Said}
use Rattle.ele_runs.specs.declared.said.Said.TheVariants.{Bad, Passed, Stopped}

-- remarks are passed over, and questions answered
abbrev pub recording : RunOptions
recording = record { strict = false; numbers = false; remarks = true; explain = true }

-- a line was answered: it isn't bad, and wasn't stopped
abbrev pub is_answered : Said → Bool
is_answered (Bad fault) = false
is_answered (Stopped stop) = false
is_answered (Passed (pass.Stopped stop removed)) = false
is_answered said = true

-- a line of a run with these options was answered so, over a history that was this before and is that after it
abbrev pub Hears : Past → List ℕ → Said → Past → Type 0
Hears before line said after = HearsKept recording (Recorded before) (line_unless_long line) said (Recorded after)

-- each of these lines was answered, one after another
abbrev pub AreHeard : Past → List (List ℕ) → Past → Type 0
AreHeard before [] after = after ≡ before
AreHeard before (line ∷ lines) after =
    (said : Said) × (between : Past) × Hears before line said between × (is_answered said ≡ true) × AreHeard between lines after

-- the script begins with these whole lines, which were answered and led from one history to the other; and the rest is behind them
pub record HasHeard (start : Past) (script : List ℕ) (past : Past) (rest : List ℕ) : Type 0 where
  pub lines : List (List ℕ)
  pub whole : AllByRecursion IsUnbroken lines
  pub parts : script ≡ whole_lines lines ++ rest
  pub heard : AreHeard start lines past

-- the next line of the script was not answered, and this is its number
pub record IsUnanswered (start : Past) (script : List ℕ) (number : ℕ) (said : Said) : Type 0 where
  pub past : Past
  pub after : Past
  pub line : List ℕ
  pub behind : List ℕ
  pub before : HasHeard start script past (line ++ 10 ∷ behind)
  pub hears : Hears past line said after
  pub unanswered : is_answered said ≡ false
  pub number_is : number ≡ line_after (whole_lines before.lines)

-- the last line of the script has no line feed, and this is its number
pub record IsCut (start : Past) (script : List ℕ) (number : ℕ) : Type 0 where
  pub past : Past
  pub last : List ℕ
  pub before : HasHeard start script past last
  pub some : last ≢ []
  pub cut : IsUnbroken last
  pub number_is : number ≡ line_after (whole_lines before.lines)

-- all lines were answered and led from one history to this one, of which no trim folded entries; or why not
abbrev pub IsRecording : Past → List ℕ → Result Past Unrecorded → Type 0
IsRecording start script (Ok past) = HasHeard start script past [] × (past.folded ≡ 0)
IsRecording start script (Err (Line number said)) = IsUnanswered start script number said
IsRecording start script (Err (Cut number)) = IsCut start script number
IsRecording start script (Err Trimmed) = (past : Past) × HasHeard start script past [] × (past.folded ≢ 0)
