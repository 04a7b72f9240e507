use Rattle.ele_output.proofs.Known.{puts_then}
use Rattle.ele_forecast_forms.proofs.json.put_plan.Goals as goal

pub returns : goal.returns
returns g c = puts_then c.put_byte.ensures (puts_then (rw c.as_slice.ensures.value at c.put_policy_field.ensures) (puts_then c.put.ensures (puts_then (rw c.as_slice-2.ensures.value at c.put_at_moments.ensures) c.put-2.ensures)))
