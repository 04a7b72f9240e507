use Rattle.ele_output.proofs.Known.{puts_then}
use Rattle.ele_forecast_forms.proofs.json.put_fate.Goals as goal

pub returns : goal.returns
returns g c = puts_then (rw c.as_slice.ensures.value at c.put_policy_field.ensures) c.put_end.ensures
