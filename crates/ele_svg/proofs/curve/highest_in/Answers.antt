use Rattle.std.proofs.Common.{arith, sym, ◌∙◌}
use Rattle.std.specs.Prelude.{max}
use Rattle.ele_svg.proofs.Ranges.{fold_here}
use Rattle.ele_forecast_text.proofs.Folds.{fold_end}
use Rattle.ele_svg.proofs.curve.highest_in.Goals as goal

pub loop-count-preserved : goal.loop-count-preserved
loop-count-preserved c =
    (rw c.max-most.ensures (sym (fold_here max c.loop-count.most c.args.counts.now c.loop-count.count-index _ c.loop-count-test.true) ∙ c.loop-count.invariant.0), omega (arith, c.loop-count.invariant.1, c.max-most.ensures))

pub returns-clause-value : goal.returns-clause-value
returns-clause-value c = sym (fold_end max c.loop-count.most c.args.counts.now c.loop-count.count-index c.loop-count-test.false) ∙ c.loop-count.invariant.0
