-- A handle reads the same version or draft after any event, until it is closed or abandoned.
use Rattle.std.specs.Prelude.{◌≡◌, ℕ, ◌==◌, Bool, false, Ok}
use Rattle.ele_model.specs.declared.event.Event.{Event}
use Rattle.ele_model.specs.declared.event.Event.TheVariants.{Close, Abandon}
use Rattle.ele_model.specs.declared.rows.Reads.{Reads}
use Rattle.ele_model.specs.Step.{step}
use Rattle.ele_model.specs.WellFormed.{IsWellFormed}
use Rattle.ele_model.specs.World.{World, reads_by}

abbrev pub closes : ℕ → Event → Bool
closes handle (Close other) = other == handle
closes handle (Abandon other) = other == handle
closes handle event = false

abbrev pub HandleStays : Type 0
HandleStays =
    (w : World) (event : Event) (handle : ℕ) (reads : Reads) → IsWellFormed w → closes handle event ≡ false → reads_by w.handles handle ≡ Ok reads
    → reads_by ((step w event).1).handles handle ≡ Ok reads
