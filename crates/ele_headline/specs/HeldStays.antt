-- A held version's opened, closed and cells never change, and its end is set at most once.
use Rattle.std.specs.Prelude.{◌≡◌, ℕ, Some, find}
use Rattle.std.specs.List.{AllByRecursion}
use Rattle.ele_model.specs.declared.event.Event.{Event}
use Rattle.ele_model.specs.declared.rows.VersionRow.{VersionRow}
use Rattle.ele_model.specs.Step.{step}
use Rattle.ele_model.specs.WellFormed.{IsWellFormed}
use Rattle.ele_model.specs.World.{World, is_version}

-- the version is the same, except that it may have got an end
pub record IsSameVersion (before after : VersionRow) : Type 0 where
  pub opened : after.opened ≡ before.opened
  pub closed : after.closed ≡ before.closed
  pub cells : after.cells ≡ before.cells
  pub ended : (at : ℕ) → before.ended ≡ Some at → after.ended ≡ Some at

-- the version is the same after the event, if it is still held
abbrev pub StaysSame : World → Event → VersionRow → Type 0
StaysSame w event row =
    (after : VersionRow) → find (is_version row.file row.number) ((step w event).1).versions ≡ Some after → IsSameVersion row after

abbrev pub HeldStays : Type 0
HeldStays = (w : World) (event : Event) → IsWellFormed w → AllByRecursion (StaysSame w event) w.versions
