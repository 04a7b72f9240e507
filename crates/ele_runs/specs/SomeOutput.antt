-- Lines have an output.
use Rattle.std.specs.Prelude.{ℕ, List}
use Rattle.ele_runs.specs.Output.{IsOutput}
use Rattle.ele_history.specs.Past.{Past}
use Rattle.ele_runs.specs.SomeAnswer.{IsWithin}
use Rattle.ele_runs.specs.Unstopped.{IsUnstopped}

-- from a history within its limit of entries, any lines and a last one have an output in which memory
-- stopped none of them
abbrev pub SomeOutput : Type 0
SomeOutput =
    (start : Past) (lines : List (List ℕ)) (last : List ℕ) → IsWithin start
    → (text : List ℕ) × (output : IsOutput start lines last text) × IsUnstopped start lines last text output
