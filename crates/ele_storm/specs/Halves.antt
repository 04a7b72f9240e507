-- What a seat knows after the workers of a storm. No public clause cites this module.
use Rattle.std.specs.Prelude.{◌≡◌, ℕ, ◌+◌, ◌-◌, ◌*◌, min, [], length, Result, OnOk}
use Rattle.ele_shared_history.specs.Knowledge.{Knowledge}
use Rattle.ele_shared_history.specs.Running.{StartsWith, entries_of}
use Rattle.ele_storm_plan.specs.declared.fault.StormFault.{StormFault}
use Rattle.ele_storm_plan.specs.declared.plan.StormPlan.{StormPlan}
use Rattle.ele_storm.specs.Storm.{AreOfWorkers}

-- how many events the workers before this one make in a round
abbrev pub size_before : StormPlan → ℕ → ℕ
size_before plan worker =
    4 * min worker plan.writers + 2 * min (worker - plan.writers) plan.historians + (worker - (plan.writers + plan.historians))

-- so many workers from this number on: the seat has seen no less, and if none failed it has as many more calls as all their rounds have
-- events; these are its only ones if it had none before
pub record RunsWorkers (plan : StormPlan) (from count : ℕ) (before after : Knowledge) {A : Type 0} (result : Result A StormFault) : Type 0 where
  pub object : after.object ≡ before.object
  pub view : StartsWith after.view before.view
  pub own : OnOk result
      (length after.own + size_before plan from * plan.rounds ≡ length before.own + size_before plan (from + count) * plan.rounds)
  pub calls : before.own ≡ [] → OnOk result (AreOfWorkers plan from count (entries_of after.own))
