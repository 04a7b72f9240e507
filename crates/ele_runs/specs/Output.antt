-- The output of a script.
use Rattle.std.specs.Prelude.{◌≡◌, ℕ, false, List, [], ◌∷◌, ◌++◌}
use Rattle.ele_runs.specs.Block.{IsBlock, cut_block}
use Rattle.ele_runs.specs.LineLength.{line_unless_long}
use Rattle.ele_history.specs.Past.{Past}

-- the blocks of whole lines, one after another, each from the state after the previous line
abbrev pub AreBlocks : Past → List (List ℕ) → List ℕ → Past → Type 0
AreBlocks before [] text after = (text ≡ []) × (after ≡ before)
AreBlocks before (line ∷ lines) text after =
    (block rest : List ℕ) × (between : Past)
    × IsBlock false before (line_unless_long line) block between × AreBlocks between lines rest after × (text ≡ block ++ rest)

-- an output of whole lines and of a last one, which may be empty
pub record IsOutput (start : Past) (lines : List (List ℕ)) (last text : List ℕ) : Type 0 where
  pub blocks : List ℕ
  pub state : Past
  pub are : AreBlocks start lines blocks state
  pub text_is : text ≡ blocks ++ cut_block (line_unless_long last)
