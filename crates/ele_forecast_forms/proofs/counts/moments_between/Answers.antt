use Rattle.std.proofs.Common.{ℕ, ◌+◌, ◌*◌, List, [], ◌∷◌, ◌++◌, ap, ◌∙◌}
use Rattle.ele_forecast_forms.proofs.Steps.{moments_more}
use Rattle.ele_forecast_forms.proofs.counts.moments_between.Goals as goal

pub loop-k-preserved : goal.loop-k-preserved
loop-k-preserved c =
    rw (c.in_ok-push.ensures.items, c.moment_at.ensures) (ap (λ (xs : List ℕ). xs ++ (c.args.first + c.args.step * c.loop-k.k) ∷ []) c.loop-k.invariant ∙ moments_more c.args.step c.args.first c.loop-k.k)
