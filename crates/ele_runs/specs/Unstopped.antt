-- Outputs of lines of which memory stopped none.
use Rattle.std.specs.Prelude.{ℕ, false, List, [], ◌∷◌, Option}
use Rattle.ele_runs.specs.Said.{IsForMemory}
use Rattle.ele_runs.specs.Block.{IsBlock}
use Rattle.ele_runs.specs.LineLength.{line_unless_long}
use Rattle.ele_runs.specs.Output.{AreBlocks, IsOutput}
use Rattle.ele_history.specs.Past.{Past}

-- the answer to the line is no stop for memory
abbrev pub IsUnstoppedBlock : (before : Past) (line : Option (List ℕ)) (block : List ℕ) (after : Past) → IsBlock false before line block after → Type 0
IsUnstoppedBlock before line block after is = ¬ IsForMemory is.0

-- the answer to each of the lines is no stop for memory
abbrev pub AreUnstopped : (before : Past) (lines : List (List ℕ)) (text : List ℕ) (after : Past) → AreBlocks before lines text after → Type 0
AreUnstopped before [] text after are = Unit {0}
AreUnstopped before (line ∷ lines) text after (block, rest, between, is, more, parts) =
    IsUnstoppedBlock before (line_unless_long line) block between is × AreUnstopped between lines rest after more

-- the answers to the lines of an output are no stops for memory
abbrev pub IsUnstopped : (start : Past) (lines : List (List ℕ)) (last text : List ℕ) → IsOutput start lines last text → Type 0
IsUnstopped start lines last text output = AreUnstopped start lines output.blocks output.state output.are
