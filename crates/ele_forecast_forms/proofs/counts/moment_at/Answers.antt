use Rattle.std.proofs.Common.{◌-◌, arith}
use Rattle.ele_forecast_forms.proofs.Steps.{steps_within}
use Rattle.ele_forecast_forms.proofs.counts.moment_at.Goals as goal

pub overflow_mul-step : goal.overflow_mul-step
overflow_mul-step c = omega (arith, steps_within c.args.k c.args.step (c.args.last - c.args.first) c.requires, c.lemma_in_range.ensures)
