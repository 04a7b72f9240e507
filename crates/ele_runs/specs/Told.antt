-- The text that a run writes for a script, under its options.
use Rattle.std.specs.Prelude.{◌≡◌, ℕ, ◌+◌, false, List, [], ◌∷◌, ◌++◌, Option}
use Rattle.ele_history.specs.Past.{Past}
use Rattle.ele_output.specs.Outlet.{Outlet}
use Rattle.ele_runs.specs.Block.{IsBlock, cut_block}
use Rattle.ele_runs.specs.RunState.{RunState, advance}
use Rattle.ele_runs.specs.LineLength.{line_unless_long}
use Rattle.ele_run_options.specs.RunOptions.{front_of, heard}
use Rattle.ele_runs.specs.Note.{IsNoted}

-- the text for the next line: its block, with the line's number before it if lines are numbered, and at the other printer the
-- reason of a bad line; no line is answered after one that ended the run
pub record IsTold (before : RunState) (line : Option (List ℕ)) (told : List ℕ) (after : RunState) : Type 0 where
  pub block : List ℕ
  pub past : Past
  pub notes : Outlet
  pub goes_on : before.ended ≡ false
  pub is : IsBlock before.options.explain before.past (heard before.options line) block past
  pub told_is : told ≡ front_of before.options (before.number + 1) (heard before.options line) ++ block
  pub noted : IsNoted before.options (before.number + 1) line block before.notes notes
  pub after_is : after ≡ advance before past line block notes

-- the text for whole lines, one after another
abbrev pub AreTold : RunState → List (List ℕ) → List ℕ → RunState → Type 0
AreTold before [] text after = (text ≡ []) × (after ≡ before)
AreTold before (line ∷ lines) text after =
    (told rest : List ℕ) × (between : RunState)
    × IsTold before (line_unless_long line) told between × AreTold between lines rest after × (text ≡ told ++ rest)

-- the text for a last line without its line feed; it is never run, also if it is a remark
abbrev pub cut_told : RunState → Option (List ℕ) → List ℕ
cut_told run_state last = front_of run_state.options (run_state.number + 1) last ++ cut_block last
