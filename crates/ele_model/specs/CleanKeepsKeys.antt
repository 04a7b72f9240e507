-- No clean changes another key: after the removal of the scan's first version, every other version keeps its ripe moment.
use Rattle.std.specs.Prelude.{◌≡◌, ℕ, ◌==◌, false, ◌&&◌, Some, None}
use Rattle.ele_due.specs.declared.key.Key.{Key}
use Rattle.ele_model.specs.RipeRows.{ripe_at}
use Rattle.ele_model.specs.Scan.{first_due}
use Rattle.ele_model.specs.Step.{clean_step}
use Rattle.ele_model.specs.WellFormed.{IsWellFormed}
use Rattle.ele_model.specs.World.{World}

-- the key's version had the key's moment and has none now, and all others have the same moment
pub record TakesOneKey (w : World) (key : Key) (after : World) : Type 0 where
  pub was : ripe_at w key.file key.number ≡ Some key.ripe
  pub gone : ripe_at after key.file key.number ≡ None
  pub others : (file number : ℕ) → ((file == key.file) && (number == key.number)) ≡ false → ripe_at after file number ≡ ripe_at w file number

abbrev pub CleanKeepsKeys : Type 0
CleanKeepsKeys = (w : World) (key : Key) → IsWellFormed w → first_due w ≡ Some key → TakesOneKey w key ((clean_step w).1)
