use Rattle.std.proofs.Common.{sym, ◌∙◌}
use Rattle.ele_svg.specs.Curve.{highest_at}
use Rattle.ele_svg.proofs.Ranges.{still_some}
use Rattle.ele_forecast_text.proofs.Folds.{fold_end, fold_more}
use Rattle.ele_svg.proofs.curve.highest_of.Goals as goal

pub loop-row-preserved : goal.loop-row-preserved
loop-row-preserved c =
    (rw (c.highest_in-highest.ensures.value, c.as_slice.ensures.value) (sym (fold_more highest_at c.loop-row.highest c.args.rows.now c.loop-row.row-index c.row-item.result c.loop-row-test.true c.row-item.is) ∙ c.loop-row.invariant.0), still_some _ _ c.loop-row.invariant.1 c.highest_in-highest.ensures.rises)

pub returns-clause-value : goal.returns-clause-value
returns-clause-value c = sym (fold_end highest_at c.loop-row.highest c.args.rows.now c.loop-row.row-index c.loop-row-test.false) ∙ c.loop-row.invariant.0
