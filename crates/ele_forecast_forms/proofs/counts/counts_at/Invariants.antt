use Rattle.std.specs.Prelude.{take}
use Rattle.std.specs.List.{AllZip}
use Rattle.ele_forecast_forms.specs.OverTime.{IsKeptCount}
use Rattle.ele_forecast_forms.proofs.counts.counts_at.Given as goal

-- those of the plans so far
abbrev pub invariant-loop-plan : goal.invariant-loop-plan
invariant-loop-plan l = AllZip (IsKeptCount l.closings l.at) (take l.plan-index l.plans) l.counts.items
