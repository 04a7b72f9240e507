use Rattle.std.proofs.Common.{sym}
use Rattle.std.specs.Prelude.{codes}
use Rattle.ele_forecast_text.proofs.Known.{joined_both}
use Rattle.ele_forecast_text.specs.Why.{length_words}
use Rattle.ele_output.proofs.Known.{puts_as, puts_then}
use Rattle.ele_svg_marks.specs.Head.{floor_words}
use Rattle.ele_svg_marks.proofs.head.put_name.Goals as goal

pub returns-in-Safe : goal.returns-in-Safe
returns-in-Safe g c =
    let seconds = c.in-Safe.interval in
    let floor = c.in-Safe.floor in
    rw c.in-Safe.is (puts_as (sym (joined_both (codes " Keep Safe for") (length_words seconds) (floor_words floor))) (puts_then (rw c.seconds.ensures.value at c.put_length.ensures) c.put_floor.ensures))

pub returns-in-Landmarks : goal.returns-in-Landmarks
returns-in-Landmarks g c = rw c.in-Landmarks.is (puts_then c.put-in-Landmarks.ensures (rw c.pairs.ensures.value at c.put_rungs.ensures))
