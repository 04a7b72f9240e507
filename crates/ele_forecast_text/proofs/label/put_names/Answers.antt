use Rattle.std.proofs.Common.{ℕ, ◌∷◌, [], arith}
use Rattle.ele_output.specs.Line.{line_text}
use Rattle.ele_forecast_text.specs.Labels.{name_of}
use Rattle.ele_output.proofs.Lists.{list_done, list_more}
use Rattle.ele_forecast_text.proofs.label.put_names.Goals as goal

pub loop-number-preserved : goal.loop-number-preserved
loop-number-preserved g c =
    list_more (λ (number : ℕ). line_text (name_of c.args.labels.now number ∷ [])) c.args.numbers.now c.loop-number.number-index c.number-item.result (omega arith) c.number-item.is c.loop-number.invariant (rw c.name_of.ensures at c.put_line.ensures)

pub returns : goal.returns
returns g c =
    list_done (λ (number : ℕ). line_text (name_of c.args.labels.now number ∷ [])) c.args.numbers.now c.loop-number.number-index c.loop-number-test.false c.loop-number.invariant
