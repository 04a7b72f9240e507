-- The live names are one tree: no name means the root, and live names lead from the root to each directory. So no directory is in itself, at
-- any depth.
use Rattle.std.specs.Prelude.{◌≡◌, ◌==◌, ◌&&◌, ℕ, suc, zero, Bool, true, false, List, None}
use Rattle.std.specs.List.{AllByRecursion, list_any}
use Rattle.ele_model.specs.declared.rows.NameRow.{NameRow}
use Rattle.ele_model.specs.NameRows.{is_live_directory, is_name_of_directory}
use Rattle.ele_model.specs.World.{root}

-- the directory is that many live names below the root, each in the directory of the one before
abbrev pub hangs_by : List NameRow → ℕ → ℕ → Bool
hangs_by names zero directory = directory == root
hangs_by names (suc depth) directory = list_any (λ row. is_live_directory directory row && hangs_by names depth row.directory) names

abbrev pub Hangs : List NameRow → ℕ → Type 0
Hangs names directory = (depth : ℕ) × (hangs_by names depth directory ≡ true)

pub record IsOneTree (names : List NameRow) : Type 0 where
  pub top : AllByRecursion (λ row. is_name_of_directory root row ≡ false) names
  pub hang : AllByRecursion (λ row. row.death ≡ None → Hangs names row.directory) names
