use Rattle.std.proofs.Common.{ℕ, sym, ◌∙◌, arith}
use Rattle.std.specs.Prelude.{max}
use Rattle.ele_svg.specs.ComparedDrawing.{group_count}
use Rattle.ele_svg.proofs.Groups.{group_most_is}
use Rattle.ele_svg.proofs.Ranges.{fold_none, fold_range, some_max}
use Rattle.ele_svg.proofs.compared.group_most.Goals as goal

pub loop-column-init : goal.loop-column-init
loop-column-init c = (group_most_is c.args.page.now c.args.forecasts.now c.args.numbers.now, omega arith)

pub loop-column-preserved : goal.loop-column-preserved
loop-column-preserved c =
    let f = λ (most column : ℕ). max most (group_count c.args.page.now c.args.forecasts.now column c.args.numbers.now) in
    (rw (c.larger-most.ensures, c.group_count-count.ensures) (sym (fold_range f c.loop-column.most c.loop-column.column 187 c.loop-column-test.true) ∙ c.loop-column.invariant.0), rw c.larger-most.ensures (some_max c.loop-column.most _ c.loop-column.invariant.1))

pub returns-clause-value : goal.returns-clause-value
returns-clause-value c =
    let f = λ (most column : ℕ). max most (group_count c.args.page.now c.args.forecasts.now column c.args.numbers.now) in
    sym (fold_none f c.loop-column.most c.loop-column.column 187 c.loop-column-test.false) ∙ c.loop-column.invariant.0
