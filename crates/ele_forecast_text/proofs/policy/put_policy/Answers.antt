use Rattle.ele_output.proofs.Known.{puts_then}
use Rattle.ele_forecast_text.proofs.policy.put_policy.Goals as goal

pub returns-in-Safe : goal.returns-in-Safe
returns-in-Safe g c = rw c.in-Safe.is (puts_then (rw c.seconds.ensures.value at c.put_with_number.ensures) c.put_floor.ensures)

pub returns-in-Landmarks : goal.returns-in-Landmarks
returns-in-Landmarks g c = rw c.in-Landmarks.is (puts_then c.put-in-Landmarks.ensures (rw c.pairs.ensures.value at c.put_pairs.ensures))
