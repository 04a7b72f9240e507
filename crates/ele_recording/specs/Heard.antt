-- The parts of a recording. No public clause cites this module.
use Rattle.std.specs.Prelude.{◌≡◌, ℕ, true, false, List, None, Result, Ok, Err}
use Rattle.ele_history.specs.Past.{Past}
use Rattle.ele_recording.specs.Recording.{HasHeard, Hears, IsUnanswered, is_answered}
use Rattle.ele_recording.specs.declared.recording.Unrecorded.{Unrecorded}
use Rattle.ele_recording.specs.declared.recording.Unrecorded.TheVariants.{Cut, Line, Trimmed}
use Rattle.ele_runs.specs.declared.said.Said.{Said}
use Rattle.memchr.specs.Find.{IsFirstByte, is_byte}

-- a line was answered, or this was said of it instead
abbrev pub HearsLine : {A : Type 0} → Past → List ℕ → Result A Said → Past → Type 0
HearsLine before line (Ok _) after = (said : Said) × Hears before line said after × (is_answered said ≡ true)
HearsLine before line (Err said) after = Hears before line said after × (is_answered said ≡ false)

-- all whole lines of the script were answered, and the rest of it has no line feed
pub record HearsAll (start : Past) (script rest : List ℕ) (past : Past) : Type 0 where
  pub heard : HasHeard start script past rest
  pub last : IsFirstByte (is_byte 10) rest None

-- the first line that wasn't answered
abbrev pub FailsToHear : Past → List ℕ → Unrecorded → Type 0
FailsToHear start script (Line number said) = IsUnanswered start script number said
FailsToHear start script (Cut number) = ⊥
FailsToHear start script Trimmed = ⊥
