-- Which worlds events lead to.
use Rattle.std.specs.Prelude.{◌≡◌, List}
use Rattle.std.specs.List.{AllByRecursion}
use Rattle.ele_model.specs.declared.event.Event.{Event}
use Rattle.ele_model.specs.Run.{run_of, IsEvent}
use Rattle.ele_model.specs.Start.{IsStart}
use Rattle.ele_model.specs.World.{World}

-- the world after some events, from this one
pub record IsReachedFrom (start w : World) : Type 0 where
  pub events : List Event
  pub are : AllByRecursion IsEvent events
  pub world : w ≡ run_of start events

-- the world after some events, from one that a run may begin in: what is true of every run is true of it
pub record IsReached (w : World) : Type 0 where
  pub start : World
  pub begins : IsStart start
  pub run : IsReachedFrom start w
