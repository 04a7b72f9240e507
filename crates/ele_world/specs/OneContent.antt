-- In every run a place has one content.
use Rattle.std.specs.Prelude.{List}
use Rattle.std.specs.List.{AllByRecursion}
use Rattle.ele_model.specs.Bounds.{Bounds, AreBounds}
use Rattle.ele_model.specs.declared.event.Event.{Event}
use Rattle.ele_model.specs.OneContent.{HasOneContent}
use Rattle.ele_model.specs.Run.{run_of, IsEvent}
use Rattle.ele_model.specs.Step.{step}
use Rattle.ele_model.specs.WellFormed.{IsWellFormed}
use Rattle.ele_model.specs.World.{World, fresh_world}

abbrev pub OneContentStays : Type 0
OneContentStays =
    (w : World) (event : Event) → IsWellFormed w → HasOneContent w → HasOneContent ((step w event).1)

-- from any well-formed world that has it
abbrev pub OneContentInRuns : Type 0
OneContentInRuns =
    (start : World) (events : List Event) → IsWellFormed start → HasOneContent start → AllByRecursion IsEvent events
    → HasOneContent (run_of start events)

-- and so from the fresh one
abbrev pub OneContentInFreshRuns : Type 0
OneContentInFreshRuns =
    (limits : Bounds) (events : List Event) → AreBounds limits → AllByRecursion IsEvent events
    → HasOneContent (run_of (fresh_world limits) events)
