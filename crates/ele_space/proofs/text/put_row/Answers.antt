use Rattle.std.proofs.Common.{arith}
use Rattle.std.specs.Prelude.{codes}
use Rattle.ele_output.proofs.Known.{put_last}
use Rattle.ele_forecast_text.proofs.Lines.{byte_more_then, list_past, put_start}
use Rattle.ele_space.specs.AmountsText.{amount_text}
use Rattle.ele_space.proofs.text.put_row.Goals as goal

pub loop-amount-init : goal.loop-amount-init
loop-amount-init g c = rw c.as_slice-amounts.ensures.value (put_start (rw c.stamp_of.ensures at c.put.ensures))

pub loop-amount-preserved : goal.loop-amount-preserved
loop-amount-preserved g c =
    byte_more_then (amount_text c.args.mark c.args.sizes) c.as_slice-amounts.result.now c.loop-amount.amount-index _ (codes "\n") (omega arith) c.loop-amount.invariant c.put_amount.ensures

pub returns : goal.returns
returns g c =
    put_last (list_past (amount_text c.args.mark c.args.sizes) c.as_slice-amounts.result.now c.loop-amount.amount-index (codes "\n") c.loop-amount-test.false c.loop-amount.invariant) c.put-2.ensures
