-- How the program ends after evidence, or after a text was verified: what its reader and its two writers hold then, and its exit
-- status.
use Rattle.std.specs.Prelude.{◌≡◌, ℕ, List, [], ◌++◌, codes, decimal, Option, Some, None, Result, Ok, Err}
use Rattle.std.specs.Io.KnownBytes.{Consumes, IsAtEnd, Keeps}
use Rattle.ele_evidence.specs.EvidenceText.{IsEvidence}
use Rattle.ele_evidence.specs.Verdict.{IsUnverified, IsVerdict}
use Rattle.ele_evidence.specs.VerdictText.{verdict_text}
use Rattle.ele_evidence.specs.declared.verdict.Verdict.{Verdict}
use Rattle.ele_evidence.specs.declared.verdict.Verdict.TheVariants.{Whole}
use Rattle.ele_history.specs.Past.{Past, fresh}
use Rattle.ele_model.specs.Bounds.{largest_bounds}
use Rattle.ele_output.specs.Outlet.{Outlet, Reports}
use Rattle.ele_recording.specs.Recording.{IsRecording}
use Rattle.ele_recording.specs.declared.recording.Unrecorded.{Unrecorded}
use Rattle.ele_recording.specs.declared.recording.Unrecorded.TheVariants as unrecorded
use Rattle.ele_run_options.specs.declared.fault.ShellFault.{ShellFault}
use Rattle.ele_run_options.specs.declared.fault.ShellFault.TheVariants.{ReadFault, NoMemory}
use Rattle.ele_runs.specs.Said.{IsText}
use Rattle.ele_words.specs.Status.{fault_line, fault_status}
use Rattle.ele_words.specs.Written.{Ends, HasWritten}

-- only these end it before all is read; memory may be refused for the start too, before anything is read
abbrev pub StopsReading : ShellFault → Type 0
StopsReading ReadFault = Unit {0}
StopsReading NoMemory = Unit {0}
StopsReading fault = ⊥

-- all of the input was read, and this was done with it; or a fault ended it before, and was reported
pub data ReadsAll (Done : List ℕ → Type 0) (input rest old new : Option (List ℕ)) (before after : Outlet) (status : ℕ) : Type 0 where
  read : (given : List ℕ) → Consumes input rest given → IsAtEnd rest → Done given → ReadsAll Done input rest old new before after status
  unread : (given : List ℕ) (fault : ShellFault) → Consumes input rest given → StopsReading fault → Keeps old new → Reports before after (fault_line fault) → status ≡ fault_status fault
      → ReadsAll Done input rest old new before after status

-- the evidence of a history, by the fault that ended it
abbrev pub HasPutEvidence : Past → Option (List ℕ) → Option (List ℕ) → Option ShellFault → Type 0
HasPutEvidence past old new (Some NoMemory) = Keeps old new
HasPutEvidence past old new fault = (text : List ℕ) × IsEvidence past.base.limits past.entries text × HasWritten text old new fault

-- the number of a line, before what is reported of it
abbrev pub line_before : ℕ → List ℕ
line_before number = codes "elephant: line " ++ (decimal number ++ codes ": ")

-- why a script makes no history that is handed over
abbrev pub IsUnrecordedText : Unrecorded → List ℕ → Type 0
IsUnrecordedText (unrecorded.Line number said) text = (answer : List ℕ) × IsText None 0 [] said answer × (text ≡ line_before number ++ answer)
IsUnrecordedText (unrecorded.Cut number) text = text ≡ line_before number ++ codes "it has no line feed\n"
IsUnrecordedText unrecorded.Trimmed text = text ≡ codes "elephant: a trim folded events, so evidence can't show them\n"

-- the evidence of the recorded history was written; or why there is none was reported
abbrev pub TellsRecorded : Result Past Unrecorded → Option (List ℕ) → Option (List ℕ) → Outlet → Outlet → ℕ → Type 0
TellsRecorded (Ok past) old new before after status = Ends (HasPutEvidence past old new) before after status
TellsRecorded (Err why) old new before after status =
    Keeps old new × ((text : List ℕ) × IsUnrecordedText why text × Reports before after text) × (status ≡ 2)

-- the script was recorded, and its evidence written
pub record Evidences (old new : Option (List ℕ)) (before after : Outlet) (status : ℕ) (script : List ℕ) : Type 0 where
  pub recorded : Result Past Unrecorded
  pub is : IsRecording (fresh largest_bounds) script recorded
  pub told : TellsRecorded recorded old new before after status

abbrev pub EvidenceEnds : Option (List ℕ) → Option (List ℕ) → Option (List ℕ) → Option (List ℕ) → Outlet → Outlet → ℕ → Type 0
EvidenceEnds input rest old new before after status = ReadsAll (Evidences old new before after status) input rest old new before after status

-- the line of the verdict was written, with status 0, if the text is evidence; otherwise it was reported, with status 1
abbrev pub TellsVerdict : Verdict → Option (List ℕ) → Option (List ℕ) → Outlet → Outlet → ℕ → Type 0
TellsVerdict (Whole count last) old new before after status = Ends (HasWritten (verdict_text (Whole count last)) old new) before after status
TellsVerdict verdict old new before after status = Keeps old new × Reports before after (verdict_text verdict) × (status ≡ 1)

-- the text was verified; or memory was refused below its rows, or for the line of the verdict, which was reported
pub data Verifies (old new : Option (List ℕ)) (before after : Outlet) (status : ℕ) (text : List ℕ) : Type 0 where
  verified : (verdict : Verdict) → IsVerdict largest_bounds text verdict → TellsVerdict verdict old new before after status → Verifies old new before after status text
  unverified : (past : Past) → IsUnverified largest_bounds text past → Keeps old new → Reports before after (fault_line NoMemory) → status ≡ 3 → Verifies old new before after status text
  untold : (verdict : Verdict) → IsVerdict largest_bounds text verdict → Keeps old new → Reports before after (fault_line NoMemory) → status ≡ 3 → Verifies old new before after status text

abbrev pub VerifyEnds : Option (List ℕ) → Option (List ℕ) → Option (List ℕ) → Option (List ℕ) → Outlet → Outlet → ℕ → Type 0
VerifyEnds input rest old new before after status = ReadsAll (Verifies old new before after status) input rest old new before after status
