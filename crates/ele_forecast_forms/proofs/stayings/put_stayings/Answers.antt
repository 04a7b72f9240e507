use Rattle.std.proofs.Common.{ℕ, arith}
use Rattle.std.specs.List.{flat_map}
use Rattle.ele_forecast_forms.specs.Compared.{plan_staying}
use Rattle.ele_forecast_text.proofs.Folds.{each_first, each_more, each_none}
use Rattle.ele_output.proofs.Known.{put_all, put_more, put_none}
use Rattle.ele_forecast_forms.proofs.stayings.put_stayings.Goals as goal

pub loop-place-init : goal.loop-place-init
loop-place-init g c = put_none (each_first (λ (place : ℕ). flat_map (plan_staying c.args.details.now place) c.args.plans.now) c.args.moments)

pub loop-place-preserved : goal.loop-place-preserved
loop-place-preserved g c =
    put_more c.loop-place.invariant (each_more (λ (place : ℕ). flat_map (plan_staying c.args.details.now place) c.args.plans.now) c.loop-place.place c.args.moments (omega arith)) c.put_moment.ensures

pub returns : goal.returns
returns g c =
    put_all c.loop-place.invariant (each_none (λ (place : ℕ). flat_map (plan_staying c.args.details.now place) c.args.plans.now) c.loop-place.place c.args.moments (omega arith))
