-- The calls of a watched storm, and its result. No public clause cites this module.
use Rattle.std.specs.Prelude.{◌≡◌, ℕ, ◌+◌, Bool, List, length, Option, Result, IfOk, OnOk}
use Rattle.ele_shared_history.specs.Knowledge.{Knowledge}
use Rattle.ele_shared_history.specs.Running.{entries_of}
use Rattle.ele_storm_plan.specs.Plan.{storm_events}
use Rattle.ele_storm.specs.Storm.{AddsStorm}
use Rattle.ele_storm_plan.specs.declared.fault.AuditFault.{AuditFault}
use Rattle.ele_storm_plan.specs.declared.fault.StormFault.{StormFault}
use Rattle.ele_storm_plan.specs.declared.plan.StormPlan.{StormPlan}
use Rattle.ele_words.specs.Progress.{ShowsProgress, StandBehind}
use Rattle.ele_words.specs.Storms.{HasStormed}

-- a storm of the plan by a seat: unless it failed, it adds exactly the plan's events to the seat's calls
pub record Stormed (plan : StormPlan) (before after : Knowledge) (result : Result ℕ StormFault) : Type 0 where
  pub object : after.object ≡ before.object
  pub count : IfOk result (λ count. count ≡ storm_events plan)
  pub own : IfOk result (λ count. length after.own ≡ length before.own + count)
  pub calls : OnOk result (AddsStorm plan (entries_of before.own) (entries_of after.own))

-- the result of a storm that reported its progress
pub record Watched (plan : StormPlan) (before after : Option (List ℕ)) (result : Result (ℕ × Bool) AuditFault) : Type 0 where
  pub most : ℕ
  pub progress : ShowsProgress before after most
  pub stormed : HasStormed plan result
  pub behind : StandBehind most plan result stormed
