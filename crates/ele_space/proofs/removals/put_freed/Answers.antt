use Rattle.std.proofs.Common.{ℕ, ◌∷◌, arith}
use Rattle.std.specs.Prelude.{codes, decimal}
use Rattle.ele_output.proofs.Known.{put_last}
use Rattle.ele_forecast_text.proofs.Lines.{list_more_then, list_past, put_next, put_start}
use Rattle.ele_space.proofs.removals.put_freed.Goals as goal

pub loop-number-init : goal.loop-number-init
loop-number-init g c =
    let sum = rw (c.as_bytes.ensures.value, c.format.ensures.text, c.bytes_of-bytes.ensures, c.as_slice.ensures.value) at c.put-2.ensures in
    put_next (put_next (put_next (put_start c.put_with_number.ensures) c.put.ensures) sum) c.put-3.ensures

pub loop-number-preserved : goal.loop-number-preserved
loop-number-preserved g c =
    list_more_then (λ (number : ℕ). 32 ∷ decimal number) c.args.numbers.now c.loop-number.number-index c.number-item.result (codes "\n") (omega arith) c.number-item.is c.loop-number.invariant (rw c.number.view_is at c.put_with_number-in-loop-number.ensures)

pub returns : goal.returns
returns g c =
    put_last (list_past (λ (number : ℕ). 32 ∷ decimal number) c.args.numbers.now c.loop-number.number-index (codes "\n") c.loop-number-test.false c.loop-number.invariant) c.put-4.ensures
