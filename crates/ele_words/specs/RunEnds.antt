-- How the program ends after a run: what it reports, and its exit status.
use Rattle.std.specs.Prelude.{◌≡◌, ℕ, List, Option, Some, None, Result, Ok, Err}
use Rattle.ele_output.specs.Outlet.{Outlet, Reports}
use Rattle.ele_runs.specs.RunState.{RunState}
use Rattle.ele_runs.specs.Telling.{Tells}
use Rattle.ele_runs.specs.declared.end.EndLine.{EndLine}
use Rattle.ele_runs.specs.declared.end.RunEnd.{RunEnd}
use Rattle.ele_run_options.specs.declared.fault.ShellFault.{ShellFault}
use Rattle.ele_run_options.specs.declared.options.RunOptions.{RunOptions}
use Rattle.ele_runs.specs.declared.tally.Tally.{Tally}
use Rattle.ele_words.specs.Status.{fault_status}
use Rattle.ele_words.specs.StrictEnd.{TellsStrictEnd, end_status}
use Rattle.ele_words.specs.Summary.{TellsSummary}
use Rattle.ele_words.specs.SystemReason.{IsReasonOf, failed_text}
use Rattle.ele_words.specs.declared.system_reason.SystemReason.{SystemReason}

abbrev pub run_status : Result RunEnd ShellFault → ℕ
run_status (Ok end) = end_status end.ended_by
run_status (Err fault) = fault_status fault

-- the line that ended a strict run was reported, or the summary of a run that no line ended
abbrev pub TellsRunEnd : RunOptions → ℕ → Option EndLine → Tally → Outlet → Outlet → Type 0
TellsRunEnd options lines None tally before after = TellsSummary options lines tally before after
TellsRunEnd options lines (Some end) tally before after = TellsStrictEnd options lines end before after

-- the end of a run was reported, or the fault that ended it, with the reason if that is known
abbrev pub TellsRun : RunOptions → Result RunEnd ShellFault → Outlet → Outlet → Type 0
TellsRun options (Ok end) before after = TellsRunEnd options end.lines end.ended_by end.tally before after
TellsRun options (Err fault) before after =
    (why : Option SystemReason) × IsReasonOf fault why × Reports before after (failed_text fault why)

-- a run was done up to an end, which was reported after `notes`, the reasons of bad lines
pub record RunEnds (start : RunState) (input rest old new : Option (List ℕ)) (after : Outlet) (status : ℕ) : Type 0 where
  pub ended : Result RunEnd ShellFault
  pub notes : Outlet
  pub done : Tells start input rest old new notes ended
  pub status_is : status ≡ run_status ended
  pub told : TellsRun start.options ended notes after
