use Rattle.std.specs.Prelude.{take}
use Rattle.ele_forecast_forms.specs.OverTime.{AreCountsAt}
use Rattle.ele_forecast_forms.proofs.counts.counts_at_moments.Given as goal

-- those of the moments so far
abbrev pub invariant-loop-moment : goal.invariant-loop-moment
invariant-loop-moment l = AreCountsAt (take l.moment-index l.moments) l.closings l.plans l.rows.items
