-- In every run a handle writes each draft.
use Rattle.std.specs.Prelude.{List}
use Rattle.std.specs.List.{AllByRecursion}
use Rattle.ele_model.specs.Bounds.{Bounds, AreBounds}
use Rattle.ele_model.specs.declared.event.Event.{Event}
use Rattle.ele_model.specs.Run.{run_of, IsEvent}
use Rattle.ele_model.specs.Step.{step}
use Rattle.ele_model.specs.WellFormed.{IsWellFormed}
use Rattle.ele_model.specs.World.{World, fresh_world}
use Rattle.ele_model.specs.Writers.{HaveWriters}

abbrev pub DraftsWritten : Type 0
DraftsWritten = (w : World) (event : Event) → IsWellFormed w → HaveWriters w → HaveWriters ((step w event).1)

-- from any well-formed world whose drafts have one
abbrev pub DraftsWrittenInRuns : Type 0
DraftsWrittenInRuns =
    (start : World) (events : List Event) → IsWellFormed start → HaveWriters start → AllByRecursion IsEvent events → HaveWriters (run_of start events)

-- and so from the fresh one
abbrev pub DraftsWrittenInFreshRuns : Type 0
DraftsWrittenInFreshRuns =
    (limits : Bounds) (events : List Event) → AreBounds limits → AllByRecursion IsEvent events → HaveWriters (run_of (fresh_world limits) events)
