-- No event removes a marked version: one that was current at a mark, in force now, of a group that has its file.
use Rattle.std.specs.Prelude.{◌≡◌, true}
use Rattle.std.specs.List.{AllByRecursion}
use Rattle.ele_model.specs.declared.event.Event.{Event}
use Rattle.ele_model.specs.declared.rows.VersionRow.{VersionRow}
use Rattle.ele_model.specs.GroupRows.{is_marked}
use Rattle.ele_model.specs.Step.{step}
use Rattle.ele_model.specs.WellFormed.{IsWellFormed}
use Rattle.ele_model.specs.World.{World, is_held}

abbrev pub IsMarkedHeld : World → Event → VersionRow → Type 0
IsMarkedHeld w event row = is_marked w.groups row.file row.closed row.ended w.now ≡ true → is_held ((step w event).1) row.file row.number ≡ true

abbrev pub MarkedStays : Type 0
MarkedStays = (w : World) (event : Event) → IsWellFormed w → AllByRecursion (IsMarkedHeld w event) w.versions
