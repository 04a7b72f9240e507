use Rattle.std.proofs.Common.{ℕ, arith, refl, sym, ◌∙◌}
use Rattle.std.specs.Prelude.{max}
use Rattle.ele_forecast_text.specs.declared.staying.Staying.{Staying}
use Rattle.ele_forecast_text.proofs.Folds.{fold_end, fold_more}
use Rattle.ele_svg_marks.proofs.page.last_drawn.Goals as goal

pub loop-staying-init : goal.loop-staying-init
loop-staying-init c = rw c.last_of-last.ensures refl

pub loop-staying-preserved : goal.loop-staying-preserved
loop-staying-preserved c =
    rw c.later-last.ensures (sym (fold_more (λ (last : ℕ) (staying : Staying). max last staying.at) c.loop-staying.last c.args.stayings.now c.loop-staying.staying-index c.staying-item.result (omega arith) c.staying-item.is) ∙ c.loop-staying.invariant)

pub returns : goal.returns
returns c =
    sym (fold_end (λ (last : ℕ) (staying : Staying). max last staying.at) c.loop-staying.last c.args.stayings.now c.loop-staying.staying-index c.loop-staying-test.false) ∙ c.loop-staying.invariant
