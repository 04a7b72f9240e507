use Rattle.std.proofs.Common.{ℕ, List, [], ◌∷◌, ◌++◌, ap, ◌∙◌}
use Rattle.ele_space.proofs.Rows.{moments_more}
use Rattle.ele_space.proofs.amounts.moments_in.Goals as goal

pub loop-row-preserved : goal.loop-row-preserved
loop-row-preserved c =
    rw c.in_ok-push.ensures.items (ap (λ (ms : List ℕ). ms ++ c.row-item.result.at ∷ []) c.loop-row.invariant ∙ moments_more c.args.rows.now c.loop-row.row-index c.row-item.result c.loop-row-test.true c.row-item.is)
