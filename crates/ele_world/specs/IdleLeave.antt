-- Due versions are removed, and with them the files without live name, held version and draft.
use Rattle.std.specs.Prelude.{ℕ, Bool, map}
use Rattle.ele_world.specs.AnyDueLeave.{AreDue, without_versions, LeavesOthersDue}
use Rattle.ele_model.specs.Change.{DropIdle, after_changes}
use Rattle.ele_model.specs.NoIdleStays.{HasNoIdle}
use Rattle.ele_model.specs.WellFormed.{IsWellFormed}
use Rattle.ele_model.specs.World.{World}

-- the world without the files that have no live name, held version and draft
abbrev pub without_idle : World → World
without_idle w = after_changes w (map (λ row. DropIdle row.id) w.files)

abbrev pub IdleLeave : Type 0
IdleLeave =
    (w : World) (gone : ℕ → ℕ → Bool) → IsWellFormed w → AreDue w gone
    → let after = without_idle (without_versions gone w) in LeavesOthersDue w gone after × HasNoIdle after
