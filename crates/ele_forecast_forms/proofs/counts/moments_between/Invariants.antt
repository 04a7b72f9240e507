use Rattle.std.specs.Prelude.{◌≡◌}
use Rattle.ele_forecast_forms.specs.OverTime.{moments_from}
use Rattle.ele_forecast_forms.proofs.counts.moments_between.Given as goal

-- those so far
abbrev pub invariant-loop-k : goal.invariant-loop-k
invariant-loop-k l = l.moments.items ≡ moments_from l.step l.first l.k
