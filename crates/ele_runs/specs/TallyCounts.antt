-- The tally of a run counts the answers to its lines.
use Rattle.std.specs.Prelude.{◌≡◌, ℕ, ◌+◌, Bool, true, false, not, List, [], ◌∷◌, length, filter, Option, Some, None}
use Rattle.std.specs.List.{position_from}
use Rattle.ele_history.specs.Past.{Past}
use Rattle.ele_output.specs.Outlet.{Outlet}
use Rattle.ele_runs.specs.Kept.{last_reply}
use Rattle.ele_runs.specs.LineLength.{line_unless_long}
use Rattle.ele_runs.specs.RunState.{RunState, begun}
use Rattle.ele_runs.specs.Tally.{is_well, outcome_for, whole_bad}
use Rattle.ele_runs.specs.Told.{AreTold}
use Rattle.ele_run_options.specs.declared.options.RunOptions.{RunOptions}
use Rattle.ele_runs.specs.declared.tally.BadLine.{BadLine}
use Rattle.ele_runs.specs.declared.tally.Outcome.{Outcome}
use Rattle.ele_runs.specs.declared.tally.Outcome.TheVariants.{Bad, Refused, Stopped}
use Rattle.ele_runs.specs.declared.tally.Tally.{Tally}

-- the outcomes of the lines, one after another
abbrev pub outcomes_of : (before : RunState) (lines : List (List ℕ)) (text : List ℕ) (after : RunState) → AreTold before lines text after → List Outcome
outcomes_of before [] text after are = []
outcomes_of before (line ∷ lines) text after (told, rest, between, is, more, parts) =
    outcome_for (last_reply is.past) is.is.0 ∷ outcomes_of between lines rest after more

abbrev pub is_bad : Outcome → Bool
is_bad Bad = true
is_bad outcome = false

abbrev pub is_refused : Outcome → Bool
is_refused Refused = true
is_refused outcome = false

abbrev pub is_stopped : Outcome → Bool
is_stopped Stopped = true
is_stopped outcome = false

-- the first bad line, if the first of the lines has this number
abbrev pub first_bad_of : ℕ → List (List ℕ) → List Outcome → Option BadLine
first_bad_of number (line ∷ lines) (Bad ∷ outcomes) = Some (whole_bad number (line_unless_long line))
first_bad_of number (line ∷ lines) (outcome ∷ outcomes) = first_bad_of (number + 1) lines outcomes
first_bad_of number lines outcomes = None

-- the number of lines with each outcome, and the first of them
pub record Counts (lines : List (List ℕ)) (outcomes : List Outcome) (tally : Tally) : Type 0 where
  pub bad : tally.bad ≡ length (filter is_bad outcomes)
  pub refused : tally.refused ≡ length (filter is_refused outcomes)
  pub stopped : tally.stopped ≡ length (filter is_stopped outcomes)
  pub first : tally.first ≡ position_from (λ outcome. not (is_well outcome)) 1 outcomes
  pub first_bad : tally.first_bad ≡ first_bad_of 1 lines outcomes

-- the tally of whole lines from the first on
abbrev pub TallyCounts : Type 0
TallyCounts =
    (options : RunOptions) (start : Past) (notes : Outlet) (lines : List (List ℕ)) (text : List ℕ) (state : RunState)
    (are : AreTold (begun options start notes) lines text state) → Counts lines (outcomes_of (begun options start notes) lines text state are) state.tally
