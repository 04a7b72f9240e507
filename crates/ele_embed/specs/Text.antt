-- The text of the last answer.
use Rattle.std.specs.Prelude.{ℕ, ◌<◌, true, List, length}
use Rattle.ele_output.specs.Outlet.{room}
use Rattle.ele_embed.specs.Embedding.{State, Recorded, last_in}
use Rattle.ele_runs.specs.Block.{IsBlock}
use Rattle.ele_runs.specs.Kept.{entries_in, folded_in}
use Rattle.ele_runs.specs.LineLength.{line_unless_long}
use Rattle.ele_runs.specs.Said.{IsText}
use Rattle.ele_runs.specs.declared.said.Said.{Said}

-- the text is that of the answer, with the last reply and the entries of the history
abbrev pub IsTold : State → Said → List ℕ → Type 0
IsTold state said text = IsText (last_in state) (folded_in state) (entries_in state) said text

-- the text of the answer has no room in the buffer of a printer, so that it takes memory
abbrev pub IsLong : State → Said → Type 0
IsLong state said = (text : List ℕ) × IsTold state said text × (room < length text)

-- with a history the text is the block that a run writes for the line
abbrev pub IsRunBlock : State → List ℕ → State → List ℕ → Type 0
IsRunBlock (Recorded before) line (Recorded after) text = IsBlock true before (line_unless_long line) text after
IsRunBlock before line after text = Unit {0}
