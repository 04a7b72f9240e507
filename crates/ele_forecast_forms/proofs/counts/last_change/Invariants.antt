use Rattle.std.proofs.Common.{◌≡◌, drop}
use Rattle.ele_forecast_forms.specs.OverTime.{last_change}
use Rattle.ele_forecast_forms.proofs.counts.last_change.Given as goal

-- the others are left
abbrev pub invariant-loop-plan : goal.invariant-loop-plan
invariant-loop-plan l = last_change l.last (drop l.plan-index l.plans) ≡ last_change l.fn.first l.plans
