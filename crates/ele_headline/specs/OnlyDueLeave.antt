-- Only a clean event removes a version, and only one that is due in its world, and so neither open nor marked.
use Rattle.std.specs.Prelude.{◌≡◌, ◌⊎◌, true, false}
use Rattle.std.specs.List.{AllByRecursion}
use Rattle.ele_model.specs.declared.event.Event.{Event}
use Rattle.ele_model.specs.declared.event.Event.TheVariants.{CleanOne}
use Rattle.ele_model.specs.declared.rows.VersionRow.{VersionRow}
use Rattle.ele_model.specs.Due.{is_due_at}
use Rattle.ele_model.specs.GroupRows.{is_marked}
use Rattle.ele_model.specs.Step.{step}
use Rattle.ele_model.specs.WellFormed.{IsWellFormed}
use Rattle.ele_model.specs.World.{World, is_held, is_open}

-- a clean removes the version; it is due, no handle reads it, and no mark in force of a group that has its file covers it
pub record LeavesAsDue (w : World) (event : Event) (row : VersionRow) : Type 0 where
  pub clean : event ≡ CleanOne
  pub due : is_due_at w row w.now ≡ true
  pub unread : is_open w.handles row.file row.number ≡ false
  pub unmarked : is_marked w.groups row.file row.closed row.ended w.now ≡ false

-- after the event the version is still held, or a clean removed it as due
abbrev pub StaysOrWasDue : World → Event → VersionRow → Type 0
StaysOrWasDue w event row = (is_held ((step w event).1) row.file row.number ≡ true) ⊎ LeavesAsDue w event row

abbrev pub OnlyDueLeave : Type 0
OnlyDueLeave = (w : World) (event : Event) → IsWellFormed w → AllByRecursion (StaysOrWasDue w event) w.versions
