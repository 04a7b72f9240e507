-- The text that was printed for a line, and for a script. No public clause cites this module.
use Rattle.std.specs.Prelude.{◌≡◌, ℕ, ◌+◌, false, true, List, [], ◌∷◌, ◌++◌, decimal, Option, Some, None, Result, Ok, Err, if◌then◌else◌}
use Rattle.ele_model.specs.declared.event.Event.{Event}
use Rattle.ele_model.specs.declared.refusal.Stop.{Stop}
use Rattle.ele_model.specs.declared.reply.Reply.{Reply}
use Rattle.ele_output.specs.Outlet.{HandsOver, Outlet, Puts}
use Rattle.ele_printer.specs.Printed.{stop_text}
use Rattle.ele_runs.specs.Block.{cut_count}
use Rattle.ele_runs.specs.Kept.{Recorded, last_reply}
use Rattle.ele_runs.specs.RunState.{RunState, counted}
use Rattle.ele_runs.specs.Said.{HearsKept, IsLastText, has_no_reply}
use Rattle.ele_runs.specs.Tally.{outcome_for}
use Rattle.ele_runs.specs.declared.said.Said.{Said}
use Rattle.ele_runs.specs.declared.said.Said.TheVariants.{Replied, Stopped}
use Rattle.ele_runs.specs.Telling.{IsTallyOf, Tells}
use Rattle.ele_runs.specs.Told.{IsTold, cut_told}
use Rattle.ele_runs.specs.declared.end.EndLine.{EndLine}
use Rattle.ele_runs.specs.declared.end.RunEnd.{RunEnd}
use Rattle.ele_run_options.specs.declared.options.RunOptions.{RunOptions}
use Rattle.ele_script.specs.Spells.{Asks}
use Rattle.ele_script.specs.declared.reading.Line.TheVariants as asks
use Rattle.ele_run_options.specs.declared.fault.ShellFault.{ShellFault}
use Rattle.ele_run_options.specs.declared.fault.ShellFault.TheVariants.{NoMemory}

-- the line has an answer, and asks for the event
abbrev pub AsksEventIn : RunOptions → Option (List ℕ) → Event → Type 0
AsksEventIn options None event = ⊥
AsksEventIn options (Some line) event = (has_no_reply options line ≡ false) × Asks options.explain line (asks.Event event)

-- the answer to an event: its reply, or the stop in its place
abbrev pub event_said : Option Stop → Said
event_said None = Replied
event_said (Some stop) = Stopped stop

-- the text of it, with the last reply
abbrev pub IsEventText : Option Reply → Option Stop → List ℕ → Type 0
IsEventText last None text = IsLastText last text
IsEventText last (Some stop) text = text ≡ stop_text stop

-- the number before an answer, if lines are numbered
abbrev pub number_front : RunOptions → ℕ → List ℕ
number_front options number = if options.numbers then decimal number ++ 32 ∷ [] else []

-- the next line was heard: its answer, and the state then
pub record HearsNext (before : RunState) (line : Option (List ℕ)) (said : Said) (after : RunState) : Type 0 where
  pub kept : HearsKept before.options (Recorded before.past) line said (Recorded after.past)
  pub after_is : after ≡ counted before after.past line (outcome_for (last_reply after.past) said) before.notes

-- the text of the line was printed
pub record PutsBlock (before : RunState) (line : Option (List ℕ)) (after : RunState) (old new : Outlet) : Type 0 where
  pub block : List ℕ
  pub is : IsTold before line block after
  pub put : Puts old new block

-- a last line without its line feed ends a strict run, unless it is empty
abbrev pub end_by : RunState → Option (List ℕ) → Option EndLine
end_by run_state (Some []) = None
end_by run_state last = if run_state.options.strict then Some (record { line = last; is_cut = true }) else None

-- the last line counts unless it is empty, and is tallied
abbrev pub CountsLast : {E : Type 0} → RunState → Option (List ℕ) → Result RunEnd E → Type 0
CountsLast run_state buffer (Ok ran) =
    (ran.lines ≡ run_state.number + cut_count buffer) × (ran.ended_by ≡ end_by run_state buffer) × IsTallyOf run_state buffer ran.tally
CountsLast run_state buffer (Err fault) = Unit {0}

-- its text was printed and all was handed over, or the writer failed
abbrev pub WritesLast : {E : Type 0} → RunState → Option (List ℕ) → Outlet → Outlet → Result RunEnd E → Type 0
WritesLast run_state buffer old new result = CountsLast run_state buffer result × HandsOver old new (cut_told run_state buffer) result

-- memory was not refused
abbrev pub HadMemory : {A : Type 0} → Result A ShellFault → Type 0
HadMemory (Err NoMemory) = ⊥
HadMemory result = Unit {0}

-- what a run has written, by how it ends
abbrev pub RunsAt : RunState → Option (List ℕ) → Option (List ℕ) → Outlet → Outlet → Outlet → Result RunEnd ShellFault → Type 0
RunsAt start input rest old new notes result = (new.writer ≡ old.writer) × Tells start input rest old.known new.known notes result × HadMemory result
