use Rattle.std.proofs.Common.{ℕ, List, [], ◌∷◌, ◌++◌, ap, ◌∙◌}
use Rattle.ele_svg.specs.Summary.{column_moment}
use Rattle.ele_svg.proofs.Ranges.{map_more}
use Rattle.ele_svg.proofs.columns.moments_until.Goals as goal

pub loop-column-preserved : goal.loop-column-preserved
loop-column-preserved c =
    rw (c.in_ok-push.ensures.items, c.column_moment.ensures) (ap (λ (xs : List ℕ). xs ++ column_moment c.args.page.now c.loop-column.column ∷ []) c.loop-column.invariant ∙ map_more (column_moment c.args.page.now) c.loop-column.column)
