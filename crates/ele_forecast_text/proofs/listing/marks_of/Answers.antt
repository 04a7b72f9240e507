use Rattle.std.proofs.Common.{arith}
use Rattle.ele_forecast_text.proofs.Marks.{marked_more}
use Rattle.ele_forecast_text.proofs.listing.marks_of.Goals as goal

pub loop-number-preserved : goal.loop-number-preserved
loop-number-preserved c = rw c.mark.ensures (marked_more c.args.numbers.now c.loop-number.marks.items c.loop-number.number-index c.number-item.result (omega arith) c.number-item.is c.loop-number.invariant)
