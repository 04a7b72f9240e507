use Rattle.std.proofs.Common.{ℕ, sym, ◌∙◌, arith}
use Rattle.std.specs.Prelude.{max}
use Rattle.ele_svg.specs.Strips.{count_in}
use Rattle.ele_svg.proofs.Bars.{most_is}
use Rattle.ele_svg.proofs.Ranges.{fold_none, fold_range, some_max}
use Rattle.ele_svg.proofs.strip.most_in.Goals as goal

pub loop-column-init : goal.loop-column-init
loop-column-init c = (most_is c.args.page.now c.args.level c.args.forecasts.now, omega arith)

pub loop-column-preserved : goal.loop-column-preserved
loop-column-preserved c =
    let f = λ (most column : ℕ). max most (count_in c.args.page.now c.args.level column c.args.forecasts.now) in
    (rw (c.larger-most.ensures, c.count_in-count.ensures) (sym (fold_range f c.loop-column.most c.loop-column.column 187 c.loop-column-test.true) ∙ c.loop-column.invariant.0), rw c.larger-most.ensures (some_max c.loop-column.most _ c.loop-column.invariant.1))

pub returns-clause-value : goal.returns-clause-value
returns-clause-value c =
    let f = λ (most column : ℕ). max most (count_in c.args.page.now c.args.level column c.args.forecasts.now) in
    sym (fold_none f c.loop-column.most c.loop-column.column 187 c.loop-column-test.false) ∙ c.loop-column.invariant.0
