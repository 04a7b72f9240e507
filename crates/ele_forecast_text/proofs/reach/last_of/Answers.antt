use Rattle.std.proofs.Common.{ℕ, arith, sym, ◌∙◌}
use Rattle.std.specs.Prelude.{max}
use Rattle.ele_forecast.specs.declared.forecast.Forecast.{Forecast}
use Rattle.ele_forecast_text.specs.Reach.{reach_of}
use Rattle.ele_forecast_text.proofs.Folds.{fold_end, fold_more}
use Rattle.ele_forecast_text.proofs.reach.last_of.Goals as goal

pub loop-forecast-preserved : goal.loop-forecast-preserved
loop-forecast-preserved c =
    rw (c.later-last.ensures, c.unwrap_or.ensures) (sym (fold_more (λ (last : ℕ) (told : Forecast). max last (reach_of told)) c.loop-forecast.last c.args.forecasts.now c.loop-forecast.forecast-index c.forecast-item.result (omega arith) c.forecast-item.is) ∙ c.loop-forecast.invariant)

pub returns : goal.returns
returns c = sym (fold_end (λ (last : ℕ) (told : Forecast). max last (reach_of told)) c.loop-forecast.last c.args.forecasts.now c.loop-forecast.forecast-index c.loop-forecast-test.false) ∙ c.loop-forecast.invariant
