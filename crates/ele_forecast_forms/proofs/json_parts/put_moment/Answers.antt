use Rattle.ele_output.proofs.Known.{puts_then}
use Rattle.ele_forecast_forms.proofs.json_parts.put_moment.Goals as goal

pub returns : goal.returns
returns g c = puts_then c.put.ensures (puts_then (rw c.seconds.ensures.value at c.put_number.ensures) (puts_then c.put-2.ensures (puts_then (rw c.stamp_of.ensures at c.put-3.ensures) (c.put-4.ensures))))
