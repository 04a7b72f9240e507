-- The result of a storm over a history of its own.
use Rattle.std.specs.Prelude.{◌≡◌, ℕ, ◌≤◌, Bool, List, [], length, IsTrue}
use Rattle.ele_history.specs.Legal.{IsLegal}
use Rattle.ele_history.specs.Past.{Past, fresh}
use Rattle.ele_shared_history.specs.Knowledge.{Knowledge, Object}
use Rattle.ele_shared_history.specs.Running.{continued}
use Rattle.ele_model.specs.Bounds.{Bounds}
use Rattle.ele_model.specs.declared.entry.Entry.{Entry}
use Rattle.ele_model.specs.World.{fresh_world}
use Rattle.ele_storm_plan.specs.declared.plan.StormPlan.{StormPlan}
use Rattle.ele_storm_plan.specs.Plan.{storm_events}
use Rattle.ele_storm.specs.Storm.{AddsStorm, IsWoven}

-- the closed history is legal from the fresh world on, and has all calls of the plan's storm, each worker's in their order; the core's
-- answers after it are those of the scans
pub record IsAudited (limits : Bounds) (plan : StormPlan) (history : Past) (events : ℕ) (equal : Bool) : Type 0 where
  pub count : events ≡ storm_events plan
  pub entries : List Entry
  pub are : history ≡ continued (fresh limits) entries
  pub legal : IsLegal (fresh_world limits) entries
  pub stand : events ≤ length entries
  pub storm : List Entry
  pub runs : AddsStorm plan [] storm
  pub others : List Entry
  pub woven : IsWoven storm others entries
  pub is_equal : IsTrue equal

-- a fresh history is shared, and its seat has made no call
pub record IsBegun (limits : Bounds) (object : Object) (seat : Knowledge) : Type 0 where
  pub opening : object.opening ≡ fresh limits
  pub of : seat.object ≡ object
  pub own : seat.own ≡ []
