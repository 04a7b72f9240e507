use Rattle.std.proofs.Common.{arith}
use Rattle.ele_forecast_text.specs.Stamp.{stamp_of}
use Rattle.ele_svg_marks.proofs.calendar.day_of.Goals as goal

pub returns : goal.returns
unfolding stamp_of
returns c = omega (arith, rw c.stamp_of.ensures at c.pair.ensures.value)
