-- An event doesn't change at which moments before now a held version lived.
use Rattle.std.specs.Prelude.{◌≡◌, ℕ, ◌<◌, Some, find}
use Rattle.std.specs.List.{AllByRecursion}
use Rattle.ele_model.specs.declared.event.Event.{Event}
use Rattle.ele_model.specs.declared.rows.VersionRow.{VersionRow}
use Rattle.ele_model.specs.Step.{step}
use Rattle.ele_model.specs.Tagged.{lives_at}
use Rattle.ele_model.specs.WellFormed.{IsWellFormed}
use Rattle.ele_model.specs.World.{World, is_version}

abbrev pub LivesAsBefore : World → Event → VersionRow → Type 0
LivesAsBefore w event row =
    (later : VersionRow) (moment : ℕ) → find (is_version row.file row.number) ((step w event).1).versions ≡ Some later → moment < w.now
    → lives_at moment later ≡ lives_at moment row

abbrev pub LifeStays : Type 0
LifeStays = (w : World) (event : Event) → IsWellFormed w → AllByRecursion (LivesAsBefore w event) w.versions
