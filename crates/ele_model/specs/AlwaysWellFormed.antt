-- Every event leaves a well-formed world well formed, and thus each world of a run is.
use Rattle.std.specs.Prelude.{List}
use Rattle.std.specs.List.{AllByRecursion}
use Rattle.ele_model.specs.declared.event.Event.{Event}
use Rattle.ele_model.specs.Bounds.{Bounds, AreBounds}
use Rattle.ele_model.specs.Run.{run_of, IsEvent}
use Rattle.ele_model.specs.Step.{step}
use Rattle.ele_model.specs.WellFormed.{IsWellFormed}
use Rattle.ele_model.specs.World.{World, fresh_world}

abbrev pub StepKeepsWellFormed : Type 0
StepKeepsWellFormed = (w : World) (event : Event) → IsEvent event → IsWellFormed w → IsWellFormed ((step w event).1)

-- from any well-formed world
abbrev pub AlwaysWellFormed : Type 0
AlwaysWellFormed =
    (start : World) (events : List Event) → IsWellFormed start → AllByRecursion IsEvent events → IsWellFormed (run_of start events)

-- and so from the fresh one
abbrev pub WellFormedInFreshRuns : Type 0
WellFormedInFreshRuns =
    (limits : Bounds) (events : List Event) → AreBounds limits → AllByRecursion IsEvent events → IsWellFormed (run_of (fresh_world limits) events)
