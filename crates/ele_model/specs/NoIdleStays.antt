-- In every run each file that is there has a live name, a held version or a draft.
use Rattle.std.specs.Prelude.{◌≡◌, false, List}
use Rattle.std.specs.List.{AllByRecursion}
use Rattle.ele_model.specs.Bounds.{Bounds, AreBounds}
use Rattle.ele_model.specs.Change.{is_idle}
use Rattle.ele_model.specs.declared.event.Event.{Event}
use Rattle.ele_model.specs.Run.{run_of, IsEvent}
use Rattle.ele_model.specs.Step.{step}
use Rattle.ele_model.specs.WellFormed.{IsWellFormed}
use Rattle.ele_model.specs.World.{World, fresh_world}

abbrev pub HasNoIdle : World → Type 0
HasNoIdle w = AllByRecursion (λ row. is_idle w row.id ≡ false) w.files

abbrev pub NoIdleStays : Type 0
NoIdleStays = (w : World) (event : Event) → IsWellFormed w → HasNoIdle w → HasNoIdle ((step w event).1)

-- from any well-formed world that has no idle file
abbrev pub NoIdleStaysInRuns : Type 0
NoIdleStaysInRuns =
    (start : World) (events : List Event) → IsWellFormed start → HasNoIdle start → AllByRecursion IsEvent events → HasNoIdle (run_of start events)

-- and so from the fresh one
abbrev pub NoIdleStaysInFreshRuns : Type 0
NoIdleStaysInFreshRuns =
    (limits : Bounds) (events : List Event) → AreBounds limits → AllByRecursion IsEvent events → HasNoIdle (run_of (fresh_world limits) events)
