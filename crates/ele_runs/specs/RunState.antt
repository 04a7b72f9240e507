-- The state of a run.
use Rattle.std.specs.Prelude.{ℕ, ◌+◌, Bool, false, not, ◌&&◌, List, [], Option, None}
use Rattle.ele_history.specs.Past.{Past}
use Rattle.ele_output.specs.Outlet.{Outlet}
use Rattle.ele_runs.specs.Tally.{fresh_tally, is_well, outcome_of, tallied}
use Rattle.ele_run_options.specs.declared.options.RunOptions.{RunOptions}
use Rattle.ele_runs.specs.declared.tally.Outcome.{Outcome}
use Rattle.ele_runs.specs.declared.tally.Tally.{Tally}

-- its options, its history, the number of lines that were run, whether one of them has ended it, the tally, and the printer
-- of reasons
pub record RunState : Type 0 where
  pub options : RunOptions
  pub past : Past
  pub number : ℕ
  pub ended : Bool
  pub tally : Tally
  pub notes : Outlet

-- before the first line
abbrev pub begun : RunOptions → Past → Outlet → RunState
begun options past notes = record { options = options; past = past; number = 0; ended = false; tally = fresh_tally; notes = notes }

-- no printer
abbrev pub no_printer : Outlet
no_printer = record { writer = 0; known = None; held = []; has_failed = false }

-- the state with this printer of reasons
abbrev pub noting : RunState → Outlet → RunState
noting run_state notes = record run_state { notes = notes }

-- the state after a line with this outcome, with the history that it left, and the printer of reasons then: a line that was not
-- answered by `ok` ends a strict run
abbrev pub counted : RunState → Past → Option (List ℕ) → Outcome → Outlet → RunState
counted run_state past line outcome notes =
    record run_state {
      past = past;
      number = run_state.number + 1;
      ended = run_state.options.strict && not (is_well outcome);
      tally = tallied run_state.tally (run_state.number + 1) line outcome;
      notes = notes;
    }

-- the same by the block of the line
abbrev pub advance : RunState → Past → Option (List ℕ) → List ℕ → Outlet → RunState
advance run_state past line block notes = counted run_state past line (outcome_of block) notes
