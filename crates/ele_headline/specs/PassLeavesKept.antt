-- An undisturbed finished pass leaves exactly the versions that the scan at its start kept.
use Rattle.std.specs.Prelude.{◌≡◌, ℕ}
use Rattle.ele_model.specs.Due.{kept_rows}
use Rattle.ele_model.specs.Pass.{IsPass}
use Rattle.ele_model.specs.WellFormed.{IsWellFormed}
use Rattle.ele_model.specs.World.{World}

abbrev pub PassLeavesKept : Type 0
PassLeavesKept = (w : World) (removed : ℕ) (after : World) → IsWellFormed w → IsPass w removed after → after.versions ≡ kept_rows w
