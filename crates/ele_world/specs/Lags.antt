-- A world that lags behind another: some of the other's due versions are removed, and the files that had nothing else. It keeps what the
-- other keeps, and still lags after a clean of its own.
use Rattle.std.specs.Prelude.{◌≡◌, ℕ, Bool, true, None, []}
use Rattle.ele_world.specs.AnyDueLeave.{AreDue}
use Rattle.ele_model.specs.Due.{kept_rows}
use Rattle.ele_world.specs.Less.{less, IsEmptied}
use Rattle.ele_model.specs.Scan.{first_due}
use Rattle.ele_model.specs.Step.{clean_step}
use Rattle.ele_model.specs.WellFormed.{IsWellFormed}
use Rattle.ele_model.specs.World.{World}

-- the first world is the second without some due versions and the files that had nothing else; there are no groups
pub record Lags (u v : World) : Type 0 where
  pub gone : ℕ → ℕ → Bool
  pub dropped : ℕ → Bool
  pub is : u ≡ less gone dropped v
  pub due : AreDue v gone
  pub emptied : (file : ℕ) → dropped file ≡ true → IsEmptied gone v file
  pub ungrouped : v.groups ≡ []

-- the first world keeps what the second keeps; so if nothing is due in the first, it has exactly these versions
abbrev pub LagsKeeps : Type 0
LagsKeeps =
    (u v : World) → IsWellFormed u → IsWellFormed v → Lags u v
    → (kept_rows u ≡ kept_rows v) × (first_due u ≡ None → u.versions ≡ kept_rows v)

abbrev pub CleanLags : Type 0
CleanLags = (u v : World) → IsWellFormed u → IsWellFormed v → Lags u v → Lags ((clean_step u).1) v
