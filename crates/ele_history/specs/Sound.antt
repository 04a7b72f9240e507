-- The invariant of the type. No public clause cites this module.
use Rattle.std.specs.Prelude.{◌≡◌, ◌≤◌}
use Rattle.std.specs.List.{AllByRecursion}
use Rattle.ele_model.specs.Run.{IsEvent}
use Rattle.ele_model.specs.World.{World, fresh_world}
use Rattle.ele_history.specs.Legal.{IsLegal}
use Rattle.ele_history.specs.Past.{Past, events_of, world_of, count_of}
use Rattle.ele_history.specs.Reached.{IsReachedBy}

-- the history, and the world of the core
pub record IsSound (past : Past) (w : World) : Type 0 where
  pub reached : IsReachedBy past.folded past.base
  -- a base into which nothing was folded is the fresh world
  pub unfolded : past.folded ≡ 0 → past.base ≡ fresh_world past.base.limits
  pub events : AllByRecursion IsEvent (events_of past.entries)
  pub legal : IsLegal past.base past.entries
  pub world : w ≡ world_of past
  pub counted : count_of past ≤ past.base.limits.events
