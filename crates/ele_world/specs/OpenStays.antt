-- No event removes a version that a handle reads.
use Rattle.std.specs.Prelude.{◌≡◌, ℕ, true, Ok}
use Rattle.ele_model.specs.declared.event.Event.{Event}
use Rattle.ele_model.specs.declared.rows.Reads.TheVariants.{Version}
use Rattle.ele_model.specs.Step.{step}
use Rattle.ele_model.specs.WellFormed.{IsWellFormed}
use Rattle.ele_model.specs.World.{World, is_held, reads_by}

abbrev pub OpenStays : Type 0
OpenStays =
    (w : World) (event : Event) (handle file number : ℕ) → IsWellFormed w → reads_by w.handles handle ≡ Ok (Version file number)
    → is_held ((step w event).1) file number ≡ true
