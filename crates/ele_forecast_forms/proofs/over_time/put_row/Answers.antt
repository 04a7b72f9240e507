use Rattle.std.proofs.Common.{ℕ, ◌∷◌, arith}
use Rattle.std.specs.Prelude.{codes, decimal}
use Rattle.ele_output.proofs.Known.{put_last}
use Rattle.ele_forecast_text.proofs.Lines.{byte_more_then, list_past, put_start}
use Rattle.ele_forecast_forms.proofs.over_time.put_row.Goals as goal

pub loop-count-init : goal.loop-count-init
loop-count-init g c = rw c.as_slice-counts.ensures.value (put_start (rw c.stamp_of.ensures at c.put.ensures))

pub loop-count-preserved : goal.loop-count-preserved
loop-count-preserved g c =
    byte_more_then (λ (count : ℕ). 32 ∷ decimal count) c.as_slice-counts.result.now c.loop-count.count-index _ (codes "\n") (omega arith) c.loop-count.invariant c.put_with_number.ensures

pub returns : goal.returns
returns g c =
    put_last (list_past (λ (count : ℕ). 32 ∷ decimal count) c.as_slice-counts.result.now c.loop-count.count-index (codes "\n") c.loop-count-test.false c.loop-count.invariant) c.put-2.ensures
