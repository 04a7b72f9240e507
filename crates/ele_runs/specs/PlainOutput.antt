-- The text of a run without options is an output.
use Rattle.std.specs.Prelude.{◌≡◌, ℕ, false, List, Option}
use Rattle.ele_history.specs.Past.{Past}
use Rattle.ele_output.specs.Outlet.{Outlet}
use Rattle.ele_runs.specs.Block.{cut_block}
use Rattle.ele_runs.specs.Output.{AreBlocks}
use Rattle.ele_run_options.specs.RunOptions.{plain}
use Rattle.ele_runs.specs.RunState.{RunState, begun}
use Rattle.ele_runs.specs.Told.{AreTold, cut_told}

-- the text is the blocks of the lines, and the text for a last line is its block: lines have no numbers, none is skipped and none
-- ends the run; nothing is printed at the printer of reasons
pub record IsPlain (start : Past) (notes : Outlet) (lines : List (List ℕ)) (text : List ℕ) (state : RunState) : Type 0 where
  pub blocks : AreBlocks start lines text state.past
  pub cut : (last : Option (List ℕ)) → cut_told state last ≡ cut_block last
  pub goes_on : state.ended ≡ false
  pub noted : state.notes ≡ notes

pub record PlainOutput : Type 0 where
  -- each text for lines is of this kind
  pub told : (start : Past) (notes : Outlet) (lines : List (List ℕ)) (text : List ℕ) (state : RunState)
      → AreTold (begun plain start notes) lines text state → IsPlain start notes lines text state
  -- and any blocks of the lines are a text for them
  pub blocks : (start : Past) (notes : Outlet) (lines : List (List ℕ)) (text : List ℕ) (after : Past)
      → AreBlocks start lines text after → (state : RunState) × AreTold (begun plain start notes) lines text state × (state.past ≡ after)
