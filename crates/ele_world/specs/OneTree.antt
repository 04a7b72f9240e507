-- In every run the live names are one tree, so no directory is in itself, at any depth.
use Rattle.std.specs.Prelude.{◌≡◌, ℕ, List, [], Ok}
use Rattle.std.specs.List.{AllByRecursion}
use Rattle.ele_model.specs.Bounds.{Bounds, AreBounds}
use Rattle.ele_model.specs.declared.event.Event.{Event}
use Rattle.ele_model.specs.declared.rows.Target.TheVariants.{Directory}
use Rattle.ele_model.specs.OneTree.{IsOneTree}
use Rattle.ele_model.specs.Run.{run_of, IsEvent}
use Rattle.ele_model.specs.Step.{step}
use Rattle.ele_model.specs.Walk.{walk}
use Rattle.ele_model.specs.WellFormed.{IsWellFormed}
use Rattle.ele_model.specs.World.{World, fresh_world}

abbrev pub OneTree : Type 0
OneTree = (w : World) (event : Event) → IsWellFormed w → IsOneTree w.names → IsOneTree ((step w event).1).names

-- from any well-formed world whose live names are one
abbrev pub OneTreeInRuns : Type 0
OneTreeInRuns =
    (start : World) (events : List Event) → IsWellFormed start → IsOneTree start.names → AllByRecursion IsEvent events
    → IsOneTree (run_of start events).names

-- and so from the fresh one
abbrev pub OneTreeInFreshRuns : Type 0
OneTreeInFreshRuns =
    (limits : Bounds) (events : List Event) → AreBounds limits → AllByRecursion IsEvent events → IsOneTree (run_of (fresh_world limits) events).names

abbrev pub NoneInItself : Type 0
NoneInItself =
    (w : World) (directory : ℕ) (path : List (List ℕ)) → IsWellFormed w → IsOneTree w.names
    → walk w.names (Directory directory) path ≡ Ok (Directory directory) → path ≡ []
