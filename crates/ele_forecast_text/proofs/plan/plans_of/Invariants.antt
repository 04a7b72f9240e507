use Rattle.std.specs.Prelude.{take}
use Rattle.ele_forecast_text.specs.Plan.{ArePlans}
use Rattle.ele_forecast_text.proofs.plan.plans_of.Given as goal

-- the plans of the policies so far
abbrev pub invariant-loop-asked : goal.invariant-loop-asked
invariant-loop-asked l = ArePlans (take l.asked-index l.policies) l.closings l.moments l.plans.items
