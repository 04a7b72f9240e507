use Rattle.std.proofs.Common.{ℕ, ◌∷◌, arith}
use Rattle.std.specs.Prelude.{codes, decimal}
use Rattle.ele_output.proofs.Known.{put_last}
use Rattle.ele_forecast_text.proofs.Lines.{list_more_then, list_past, put_start}
use Rattle.ele_against.proofs.table.put_numbers.Goals as goal

pub loop-number-init : goal.loop-number-init
loop-number-init g c = put_start c.put.ensures

pub loop-number-preserved : goal.loop-number-preserved
loop-number-preserved g c =
    list_more_then (λ (number : ℕ). 32 ∷ decimal number) c.args.numbers.now c.loop-number.number-index c.number-item.result (codes "\n") (omega arith) c.number-item.is c.loop-number.invariant (rw c.number.view_is at c.put_with_number.ensures)

pub returns : goal.returns
returns g c =
    put_last (list_past (λ (number : ℕ). 32 ∷ decimal number) c.args.numbers.now c.loop-number.number-index (codes "\n") c.loop-number-test.false c.loop-number.invariant) c.put-2.ensures
