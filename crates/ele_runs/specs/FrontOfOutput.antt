-- A run without options that its writer ended has written a prefix of an output of its input.
use Rattle.std.specs.Prelude.{ℕ, List, Option, Some}
use Rattle.std.specs.Io.KnownBytes.{Keeps}
use Rattle.ele_runs.specs.Lines.{AreLines}
use Rattle.ele_runs.specs.Output.{IsOutput}
use Rattle.ele_run_options.specs.RunOptions.{plain}
use Rattle.ele_runs.specs.RunState.{begun}
use Rattle.ele_runs.specs.Telling.{ToldToAWriteFault, WritesFront}
use Rattle.ele_history.specs.Past.{Past}
use Rattle.ele_output.specs.Outlet.{Outlet}
use Rattle.ele_runs.specs.SomeAnswer.{IsWithin}

-- an output of the input
pub record IsOutputOf (start : Past) (input : Option (List ℕ)) (text : List ℕ) : Type 0 where
  pub given : List ℕ
  pub lines : List (List ℕ)
  pub last : List ℕ
  pub input_is : Keeps input (Some given)
  pub are : AreLines given lines last
  pub output : IsOutput start lines last text

abbrev pub FrontOfOutput : Type 0
FrontOfOutput =
    (start : Past) (input old new : Option (List ℕ)) (before after : Outlet) → IsWithin start
    → WritesFront (ToldToAWriteFault (begun plain start before) input after) old new → WritesFront (IsOutputOf start input) old new
